use Rattle.std.proofs.Common.{◌≡◌, ◌∙◌, [], map}
use Rattle.std.specs.Prelude.{encode_utf8_all}
use Rattle.node_sets.specs.Members.{has}
use Rattle.c14n_methods.specs.Methods.{canonical_form}
use Rattle.core_validate.proofs.signature.authenticate.Goals as goal

pub returns-in-Ok-clause-length : goal.returns-in-Ok-clause-length
returns-in-Ok-clause-length c = c.count.ensures ∙ (c.in-Ok.ensures.by.at [] c.new-sink.ensures.empty).count

pub returns-in-Ok-clause-mac : goal.returns-in-Ok-clause-mac
returns-in-Ok-clause-mac c =
    let set = c.args.set.now in
    let form = canonical_form c.args.method (map encode_utf8_all c.args.prefixes.now) set.rows (has set.members) in
    c.finish.ensures form (c.in-Ok.ensures.by.at [] c.new-sink.ensures.empty).mac ∙ c.in-Ok.ensures.by.same form ∙ c.new-sink.ensures.makes form
