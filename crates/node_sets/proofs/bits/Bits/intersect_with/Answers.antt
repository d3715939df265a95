use Rattle.std.proofs.Common.{◌≡◌, ◌∙◌, ap, sym, refl, length, ◌/◌, ◌+◌, get_or, ℕ, bit_and, ◌&&◌}
use Rattle.std.proofs.lemmas.List.{with_items_is}
use Rattle.node_sets.specs.Members.{has}
use Rattle.node_sets.specs.Words.{bits_of}
use Rattle.node_sets.proofs.WordLemmas.{size_is, has_after_join, joins-and}
use Rattle.node_sets.proofs.bits.Bits.intersect_with.Goals as goal

pub and_words-requires : goal.and_words-requires
and_words-requires c =
    let sizes : c.self.inside.size ≡ c.other.inside.size =
    sym (size_is c.self.inside.words.items c.self.inside.size c.args.self.now c.self.view_is c.self.invariant)
    ∙ c.requires
    ∙ size_is c.other.inside.words.items c.other.inside.size c.args.other.now c.other.view_is c.other.invariant in
    ap length c.deref_mut.ensures.value ∙ c.self.invariant ∙ ap (λ n. n / 64 + 1) sizes ∙ sym c.other.invariant ∙ sym (ap length c.deref.ensures.value)

pub returns-clause-members : goal.returns-clause-members
returns-clause-members c = λ k.
    let sizes : c.self.inside.size ≡ c.other.inside.size =
    sym (size_is c.self.inside.words.items c.self.inside.size c.args.self.now c.self.view_is c.self.invariant)
    ∙ c.requires
    ∙ size_is c.other.inside.words.items c.other.inside.size c.args.other.now c.other.view_is c.other.invariant in
    let own = c.self.inside.words.items in
    let others = c.other.inside.words.items in
    let join : ℕ → ℕ → ℕ = λ a b. bit_and a b in
    let each : (q : ℕ) → get_or c.and_words.new.words q 0 ≡ join (get_or own q 0) (get_or others q 0) =
    λ q. c.and_words.ensures q ∙ ap (λ t. join (get_or t q 0) (get_or c.deref.result.now q 0)) c.deref_mut.ensures.value ∙ ap (λ t. join (get_or own q 0) (get_or t q 0)) c.deref.ensures.value in
    ap (λ t. has (bits_of t c.self.inside.size) k) (with_items_is c.self.inside.words c.and_words.new.words (c.and_words.auto.words ∙ c.deref_mut.ensures.len))
    ∙ has_after_join own c.self.inside.size c.args.self.now c.self.view_is c.self.invariant (λ a b. a && b) refl others c.and_words.new.words c.args.other.now (ap (bits_of others) sizes ∙ c.other.view_is) (λ q. joins-and _ _ _ (each q)) k
