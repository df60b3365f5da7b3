-- What a hand took with its grips, and what the deques know once the grips are given back.
use Rattle.std.specs.Prelude.{◌≡◌, ◌+◌, ℕ, true, List, [], ◌∷◌, ◌++◌, ◌<◌, ◌≤◌, All, map, slice_index_or, Option, IfSome, IfNone}
use Rattle.std.specs.declared.alloc.Global.{Global}
use Rattle.atomic_blocks.specs.Lent.{RowsId}
use Rattle.crossbeam_deque.specs.Handles.{stealer_deque, view}
use Rattle.dpl_deal.specs.declared.view.PassView.{PassView}
use Rattle.dpl_deal.specs.declared.grip.Grip.{Grip}
use Rattle.dpl_deal.specs.declared.grip.Thief.{Thief}
use Rattle.dpl_deal.specs.Ports.{pass_deque}
use Rattle.dpl_deal.specs.Rule.{after_join, times}

abbrev pub grip_view : Grip → PassView
grip_view g = view g.pass

abbrev pub grip_deque : Grip → RowsId × Global
grip_deque g = pass_deque g.pass

abbrev pub thief_deque : Thief → RowsId × Global
thief_deque t = stealer_deque t.stealer

-- the tiles that were taken, deque by deque
abbrev pub took_by : List Grip → List ℕ
took_by [] = []
took_by (g ∷ gs) = (grip_view g).took ++ took_by gs

-- of each deque it is noted that no tile is left
abbrev pub AllEnded : List Grip → Type 0
AllEnded gs = All (λ g. (grip_view g).ended ≡ true) gs

-- of the first n deques it is noted
abbrev pub EndedBelow : ℕ → List Grip → Type 0
EndedBelow n gs = (j : ℕ) (d : Grip) → j < n → (grip_view (slice_index_or gs j d)).ended ≡ true

-- no tile that they can take is past this count
abbrev pub AreWithin : ℕ → List Grip → Type 0
AreWithin tiles gs = All (λ g. (grip_view g).limit ≤ tiles) gs

-- what a try to take leaves of the grips: their tiles gain the one that was taken, which is below the count, or stay
pub record Tried (old : List Grip) (t : Option ℕ) (new : List Grip) : Type 0 where
  pub deques : map grip_deque new ≡ map grip_deque old
  pub within : (tiles : ℕ) → AreWithin tiles old → AreWithin tiles new
  pub below : IfSome t (λ u. (tiles : ℕ) → AreWithin tiles old → u < tiles)
  pub some : IfSome t (λ u. (x : ℕ) → times x (took_by new) ≡ times x (took_by old) + times x (u ∷ []))
  pub none : IfNone t (took_by new ≡ took_by old)
  pub ended : (n : ℕ) → EndedBelow n old → EndedBelow n new

-- each deque's view with a hand's joined to it
abbrev pub joined : List PassView → List Grip → List PassView
joined vs [] = vs
joined [] (g ∷ gs) = []
joined (v ∷ vs) (g ∷ gs) = after_join v (grip_view g) ∷ joined vs gs
