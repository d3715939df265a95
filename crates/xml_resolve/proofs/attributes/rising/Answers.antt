use Rattle.std.proofs.Common.{◌≡◌, ◌∙◌, ◌+◌, ◌<◌, ℕ, List, [], ◌∷◌, ◌++◌, sym, ap, arith, drop, length, map}
use Rattle.std.specs.Prelude.{option_map}
use Rattle.std.proofs.lemmas.List.{drop_more, map_push}
use Rattle.xml_syntax.specs.Seen.{seen_attribute, seen_attributes}
use Rattle.xml_resolve.specs.Keys.{key_of}
use Rattle.xml_resolve.specs.Code.Keys.{attribute_of}
use Rattle.xml_resolve.specs.Table.{bound_by}
use Rattle.xml_resolve.proofs.RisingLaws.{below_more, passed_over, put_behind}
use Rattle.xml_resolve.proofs.attributes.rising.Goals as goal
use Rattle.xml_resolve.proofs.attributes.rising.Goals.{then-not-is_declaration+in-Some-attribute_uri+else-not-is_behind+in-Ok+in_ok-push, else-not-is_declaration}

pub loop-attribute-preserved : goal.loop-attribute-preserved
loop-attribute-preserved c =
    let xs = c.args.attributes.now in
    let i = c.loop-attribute.attribute-index in
    let item = c.attribute-item.result in
    let lt : i < length xs = omega (arith, c.loop-attribute-test.true) in
    let cut = ap seen_attributes (drop_more xs i item lt ∙ ap (λ y. y ∷ drop (i + 1) xs) (sym c.attribute-item.is)) in
    let bound = bound_by c.args.bindings.now in
    let done = map attribute_of c.loop-attribute.list.items in
    let last = option_map key_of c.loop-attribute.last in
    let q : List ℕ × List ℕ = (c.in-Some.prefix.now, c.in-Some.local.now) in
    let others = seen_attributes (drop (i + 1) xs) in
    elim c.if-not-is_declaration.branch [
      | then-not-is_declaration+in-Some-attribute_uri+else-not-is_behind+in-Ok+in_ok-push w ↦
          let uri = w.in-Some-attribute_uri.uri.now in
          let behind = sym w.is_behind.ensures ∙ w.if-not-is_behind.false in
          let pushed : map attribute_of w.push.new.self.items ≡ done ++ ((uri, q.1), (q.0, w.in-Ok.value.now)) ∷ [] = rw w.in_ok-push.ensures.items (map_push attribute_of c.loop-attribute.list.items _) in
          rw (w.list-is, w.last-is, pushed, w.in-Ok.ensures) (
            below_more last done (uri, q.1) (q.0, _) c.loop-attribute.invariant.0 behind,
            put_behind bound done (seen_attributes (drop i xs)) others (seen_attribute item) q cut c.in-Some.ensures.parts last uri (sym c.is_declaration.ensures ∙ w.if-not-is_declaration.true) (sym w.in-Some-attribute_uri.ensures) c.loop-attribute.invariant.0 behind
                ∙ c.loop-attribute.invariant.1,
          )
      | else-not-is_declaration w ↦ rw (w.list-is, w.last-is) (
        c.loop-attribute.invariant.0,
        passed_over bound done (seen_attributes (drop i xs)) others (seen_attribute item) q cut c.in-Some.ensures.parts (sym c.is_declaration.ensures ∙ w.if-not-is_declaration.false) ∙ c.loop-attribute.invariant.1,
      )
    ]
