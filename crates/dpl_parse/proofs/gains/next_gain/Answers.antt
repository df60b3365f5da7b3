use Rattle.std.proofs.Common.{◌≡◌, ◌+◌, ◌^◌, ◌<◌, ◌≤◌, ◌∷◌, ℕ, List, [], sym, ap, ◌∙◌, get_or, arith, lit<}
use Rattle.dpl_cert.specs.declared.cert.Gain.{Gain}
use Rattle.dpl_cert.specs.Lines.{line, lines}
use Rattle.dpl_cert.specs.Grammar.{gain_words, IsGain}
use Rattle.dpl_parse.specs.Reading.{IsNext}
use Rattle.dpl_parse.proofs.Rising.{gain_same}
use Rattle.dpl_parse.proofs.gains.next_gain.Goals as goal

-- a gain that is read and may not come next is no other one that may
other_gain : (ls rest : List (List ℕ)) (read : Gain) (least left : ℕ) → IsGain read → ls ≡ line (gain_words 0 read) ∷ rest
    → ((least ≤ read.piece) → (read.piece + left < 2 ^ 64) → ⊥) → (g : Gain) (t : List (List ℕ)) → IsNext least left g → ls ≡ line (gain_words 0 g) ∷ t → ⊥
other_gain ls rest read least left is e bad g t next f =
    let first : line (gain_words 0 read) ≡ line (gain_words 0 g) = ap (λ (x : List (List ℕ)). get_or x 0 []) (sym e ∙ f) in
    let same = ap (λ (x : Gain). x.piece) (gain_same 0 read g (lit< tt) is next.0 first) in
    bad (omega (arith, same, next.1)) (omega (arith, same, next.2))

pub returns-then-gain-least-clause-none : goal.returns-then-gain-least-clause-none
returns-then-gain-least-clause-none c =
    let gain = c.in_ok-gain.ensures.found in
    other_gain (lines c.args.bytes.now) _ c.in_ok-gain.gain c.args.least c.args.left gain.0 gain.1 (λ a b. omega (arith, a, c.if-gain-least.true))

pub returns-then-gain-left-clause-none : goal.returns-then-gain-left-clause-none
returns-then-gain-left-clause-none c =
    let gain = c.in_ok-gain.ensures.found in
    other_gain (lines c.args.bytes.now) _ c.in_ok-gain.gain c.args.least c.args.left gain.0 gain.1
    (λ a b. omega (arith, b, c.if-gain-left.true, c.ranges.left))
