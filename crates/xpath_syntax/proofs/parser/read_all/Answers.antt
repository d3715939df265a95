use Rattle.std.proofs.Common.{rules, ◌≡◌, Bool, ◌||◌, List, [], ◌∷◌, ◌++◌, Option, Some, reverse, sym, ap, ◌∙◌}
use Rattle.std.proofs.lemmas.List.{reverse-append}
use Rattle.sig_base.specs.Options.{◌>>=◌}
use Rattle.xpath_words.specs.declared.terminal.Terminal.{Terminal}
use Rattle.xpath_words.specs.declared.terminal.Token.{Token}
use Rattle.xpath_syntax.specs.declared.frame.Frame.{Frame}
use Rattle.xpath_syntax.specs.declared.mode.Mode.{Mode}
use Rattle.xpath_syntax.specs.Nesting.{own_levels}
use Rattle.xpath_syntax.specs.Offences.{terminals}
use Rattle.xpath_syntax.specs.Reading.{State, step, deepens, run}
use Rattle.xpath_syntax.specs.Code.Forgetting.{kept, shallow}
use Rattle.xpath_syntax.proofs.Forgotten.{run_kept}
use Rattle.xpath_syntax.proofs.parser.read_all.Goals as goal
use Rattle.xpath_syntax.proofs.parser.read_all.Goals.{then-is_deep, else-is_deep}

-- one terminal, behind which reading goes on with what is kept
goes_on : (k left : List Frame) (mode ended next : Mode) (deep deeper : Bool) (sign : Terminal) (more : List Terminal) → step k mode sign ≡ Some (left, ended)
    → deeper ≡ (deep || deepens left (own_levels sign)) → next ≡ kept deeper ended → shallow (run left next deeper more) ≡ shallow (run k mode deep (sign ∷ more))
unfolding run
goes_on k left mode ended next deep deeper sign more h i j =
    ap (λ (u : Mode). shallow (run left u deeper more)) j
    ∙ run_kept deeper left ended more
    ∙ ap (λ (b : Bool). shallow (run left ended b more)) i
    ∙ sym (ap (λ (o : Option State). shallow (o >>= (λ s. run s.0 s.1 (deep || deepens s.0 (own_levels sign)) more))) h)

-- the last token of the rest comes first
last_first : (rest less : List Token) (token : Token) → rest ≡ less ++ (token ∷ []) → terminals (reverse rest) ≡ token.terminal ∷ terminals (reverse less)
last_first rest less token e = ap (λ (ts : List Token). terminals (reverse ts)) e ∙ ap terminals (reverse-append less (token ∷ []))

pub loop-token-preserved : goal.loop-token-preserved
loop-token-preserved c =
    let token = c.in-Some.token in
    let before = reverse c.loop-token.stack.items in
    let left = reverse c.advance.new.stack.items in
    let more = terminals (reverse c.pop.new.self.items) in
    let steps : step before c.loop-token.mode token.terminal ≡ Some (left, c.in_ok-mode.mode) = search rules in
    let deeper : c.if-is_deep.is_deep ≡ (c.loop-token.is_deep || deepens left (own_levels token.terminal)) =
    elim c.if-is_deep.branch [
      | then-is_deep w ↦ search rules
      | else-is_deep w ↦ search rules
    ]
    in
    goes_on before left c.loop-token.mode c.in_ok-mode.mode c.kept-mode.result c.loop-token.is_deep c.if-is_deep.is_deep token.terminal more steps deeper c.kept-mode.ensures
    ∙ ap (λ (ts : List Terminal). shallow (run before c.loop-token.mode c.loop-token.is_deep ts)) (sym (last_first c.loop-token.rest.items c.pop.new.self.items token c.in-Some.ensures.items))
    ∙ c.loop-token.invariant
