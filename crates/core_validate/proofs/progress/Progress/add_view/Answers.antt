use Rattle.std.proofs.Common.{Ok, Err, ◌≡◌, ◌∙◌, ◌<◌, ◌≤◌, ◌+◌, ℕ, List, length, ap, sym, arith}
use Rattle.std.specs.Prelude.{bytes_eq}
use Rattle.digests_hmac.specs.Hash.{hash}
use Rattle.dsig_fields.specs.Holds.{digest_holds}
use Rattle.core_validate.specs.declared.view.Measured.{Measured}
use Rattle.core_validate.proofs.ProgressLaws.{noted_is, taken}
use Rattle.core_validate.proofs.progress.Progress.add_view.Goals as goal

pub returns-clause-added : goal.returns-clause-added
returns-clause-added c = λ view is.
    let r = c.args.reference.now in let p = c.args.self.now in
    let size : c.args.measured.length ≡ length view = ap (λ (x : Measured). x.length) is in
    let value : c.args.measured.value ≡ hash r.digest view = ap (λ (x : Measured). x.value) is in
    let holds : c.eq-holds.result ≡ digest_holds r.digest view r.expected =
    c.eq-holds.ensures ∙ ap (λ (t : List ℕ). bytes_eq t c.bytes-2.result.now) (c.bytes.ensures.value ∙ value) ∙ ap (bytes_eq (hash r.digest view)) c.bytes-2.ensures in
    taken c.args.number r view p (omega arith)
    ∙ ap Ok (sym (noted_is c.args.number r p c.keep_octets.new.self c.note.new.self c.args.measured view c.eq-holds.result is holds c.in_ok-keep_octets.ensures c.in_ok-note.ensures))

pub returns-clause-further : goal.returns-clause-further
returns-clause-further c =
    let m = c.requires.measure in let view = m.view in let is = m.is in
    let r = c.args.reference.now in let p = c.args.self.now in
    let size : c.args.measured.length ≡ length view = ap (λ (x : Measured). x.length) is in
    let value : c.args.measured.value ≡ hash r.digest view = ap (λ (x : Measured). x.value) is in
    let holds : c.eq-holds.result ≡ digest_holds r.digest view r.expected =
    c.eq-holds.ensures ∙ ap (λ (t : List ℕ). bytes_eq t c.bytes-2.result.now) (c.bytes.ensures.value ∙ value) ∙ ap (bytes_eq (hash r.digest view)) c.bytes-2.ensures in
    record {
      view = view;
      within = m.within;
      fits = omega arith;
      is = noted_is c.args.number r p c.keep_octets.new.self c.note.new.self c.args.measured view c.eq-holds.result is holds c.in_ok-keep_octets.ensures c.in_ok-note.ensures;
    }
