use Rattle.std.proofs.Common.{refl}
use Rattle.sig_base.proofs.PutsLemmas.{Appended-then, IsFront-append, IsFront-all, stopped, handed_on}
use Rattle.c14n_bases.specs.Join.{segments, is_open}
use Rattle.c14n_bases.proofs.LedLemmas.{cleaned-is, cleaned-as}
use Rattle.c14n_bases.proofs.clean.put_cleaned.Goals as goal

pub returns-in-Refused-put_upwards : goal.returns-in-Refused-put_upwards
returns-in-Refused-put_upwards g c =
    let first = segments c.args.first.now in let second = segments c.args.second.now in
    rw (cleaned-is c.args.absolute (is_open c.args.second.now) first second c.surplus-behind.result c.upwards_first-upwards.result c.surplus-behind.ensures.value c.upwards_first-upwards.ensures)
    (stopped _ _ _ _ c.in_default.ensures.by c.in-Refused-put_upwards.ensures.by (IsFront-append _ _ _ (IsFront-append _ _ _ (IsFront-append _ _ _ (IsFront-all _)))))

pub returns-in-Refused-put_names : goal.returns-in-Refused-put_names
returns-in-Refused-put_names g c =
    let first = segments c.args.first.now in let second = segments c.args.second.now in
    rw (cleaned-is c.args.absolute (is_open c.args.second.now) first second c.surplus-behind.result c.upwards_first-upwards.result c.surplus-behind.ensures.value c.upwards_first-upwards.ensures)
    (stopped _ _ _ _ (Appended-then _ _ _ c.in_default.ensures.by c.in_default-put_upwards.ensures.by) c.in-Refused-put_names.ensures.written.by (IsFront-append _ _ _ (IsFront-append _ _ _ (IsFront-all _))))

pub returns-in-Refused-put_names-2 : goal.returns-in-Refused-put_names-2
returns-in-Refused-put_names-2 g c =
    let first = segments c.args.first.now in let second = segments c.args.second.now in
    rw (cleaned-as c.args.absolute (is_open c.args.second.now) first second c.surplus-behind.result c.upwards_first-upwards.result c.surplus-behind.ensures.value c.upwards_first-upwards.ensures
    c.put_names.new.begun _ (c.in_default-put_names.ensures.begun refl) refl)
    (stopped _ _ _ _ (Appended-then _ _ _ (Appended-then _ _ _ c.in_default.ensures.by c.in_default-put_upwards.ensures.by) c.in_default-put_names.ensures.written.by)
    c.in-Refused-put_names-2.ensures.written.by (IsFront-append _ _ _ (IsFront-all _)))

pub returns : goal.returns
returns g c =
    let first = segments c.args.first.now in let second = segments c.args.second.now in
    rw (cleaned-as c.args.absolute (is_open c.args.second.now) first second c.surplus-behind.result c.upwards_first-upwards.result c.surplus-behind.ensures.value c.upwards_first-upwards.ensures
    c.put_names.new.begun c.put_names-2.new.begun (c.in_default-put_names.ensures.begun refl) (c.in_default-put_names-2.ensures.begun refl))
    (handed_on _ _ _ _ c.put_slash_if-2.result
    (Appended-then _ _ _ (Appended-then _ _ _ (Appended-then _ _ _ c.in_default.ensures.by c.in_default-put_upwards.ensures.by) c.in_default-put_names.ensures.written.by) c.in_default-put_names-2.ensures.written.by)
    (rw (← c.closes-closing.ensures) c.put_slash_if-2.ensures) refl)
