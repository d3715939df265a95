use Rattle.std.proofs.Common.{◌≡◌, ◌≤◌, ◌+◌, ℕ, List, length, take, refl, ap, ◌∙◌, arith}
use Rattle.std.specs.List.{between}
use Rattle.std.proofs.lemmas.List.{with_items_is}
use Rattle.std.specs.Vec.{with_item, with_items}
use Rattle.xml_doc.specs.Rows.{RowOf}
use Rattle.c14n_text.specs.Namespaces.{Rule}
use Rattle.c14n_rows.specs.declared.nearest.Nearest.{Nearest}
use Rattle.c14n_rows.specs.declared.nearest.Part.{Part}
use Rattle.c14n_rows.specs.Code.Nearest.{last_part, nearest_of, NearestAt}
use Rattle.c14n_rows.proofs.NearestLemmas.{nearest-added}
use Rattle.c14n_rows.proofs.nearest.write_part.Goals as goal

pub returns-clause-parts : goal.returns-clause-parts
returns-clause-parts c = λ (rows : List RowOf) (rule : Rule) (xml : List ℕ) (h : NearestAt rows rule xml c.args.nearest.now) (few : c.args.count ≤ length xml) (more : (last_part c.args.nearest.now).count ≤ c.args.count) (are : c.args.kept.now ≡ nearest_of rows rule (take c.args.count xml)).
    let from = c.last_part-from.result.until in let kept = c.args.kept.now in
    let written = c.write_rows.new.rows in
    let same : length written ≡ length c.args.nearest.now.rows.items = c.write_rows.ensures.count ∙ ap (length {A = ℕ}) c.deref_mut.ensures.value in
    let count = c.write_rows.ensures.count ∙ c.deref_mut.ensures.len in
    let whole : (with_items c.args.nearest.now.rows written).items ≡ written = with_items_is c.args.nearest.now.rows written count in
    let is_from = ap (λ (p : Part). p.until) c.last_part-from.ensures in
    let used = c.requires.used in let until = c.requires.until in
    let full = c.if-nearest-len.false in let room = c.if-len-from.false in
    let part : Part = record { count = c.args.count; from = from; until = from + length kept } in
    let new : Nearest = record { rows = with_items c.args.nearest.now.rows c.write_rows.new.rows; parts = with_item c.args.nearest.now.parts c.args.nearest.now.used part; used = c.args.nearest.now.used + 1 } in
    nearest-added rows rule xml c.args.nearest.now new c.args.count kept h few more are part refl is_from refl
    refl (omega arith) refl (ap (take from) whole ∙ c.write_rows.ensures.before ∙ ap (take from) c.deref_mut.ensures.value) (ap (between from (from + length kept)) whole ∙ c.write_rows.ensures.here)
    (ap (length {A = ℕ}) whole ∙ same) (let n = ap (length {A = ℕ}) whole in omega arith)
