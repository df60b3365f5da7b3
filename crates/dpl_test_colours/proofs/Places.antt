-- A hand at its place, after it took.
use Rattle.std.proofs.Common.{◌≡◌, ◌∙◌, ◌<◌, ℕ, List, length, set, get_or, sym, subst, arith}
use Rattle.std.specs.Prelude.{Contains, OnOk, Result, Ok, Err}
use Rattle.std.proofs.lemmas.List.{get_or-set_same, length-set}
use Rattle.dpl_deal.specs.declared.hand.Hand.{Hand}
use Rattle.dpl_deal.specs.declared.deal.Deal.{Deal}
use Rattle.dpl_deal.specs.Hands.{AreHandsOf, IsDone, IsHandOf}
use Rattle.dpl_deal.proofs.Arming.{each_put}

pub hand_at : (deal : Deal) (hs : List Hand) (i : ℕ) (h : Hand) → AreHandsOf deal hs → i < length hs → h ≡ get_or hs i h → IsHandOf deal i h
hand_at deal hs i h all lt is = subst (IsHandOf deal i) (sym is) (all.1 i h lt)

pub hands_put : (deal : Deal) (hs : List Hand) (i : ℕ) (old new : Hand) → AreHandsOf deal hs → i < length hs → old ≡ get_or hs i old
    → (IsHandOf deal i old → IsHandOf deal i new) → AreHandsOf deal (set hs i new)
hands_put deal hs i old new all lt is f = (
  length-set hs i new ∙ all.0,
  each_put (IsHandOf deal) (IsHandOf deal) hs i new lt all.1
      (λ j x ne p. p) (f (hand_at deal hs i old all lt is)),
)

pub hand_there : (hs : List Hand) (i : ℕ) (new : Hand) → i < length hs → IsDone new → (h : Hand) × Contains (set hs i new) h × IsDone h
hand_there hs i new lt done = (new, (i, omega (arith, lt, length-set hs i new), get_or-set_same hs i new new lt), done)

pub on_ok : {A E : Type 0} {P Q : Type 0} (r : Result A E) → (P → Q) → OnOk r P → OnOk r Q
on_ok (Ok x) f p = f p
on_ok (Err e) f p = tt
