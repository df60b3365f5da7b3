-- The hands of a deal, and the tiles that they took.
use Rattle.std.specs.Prelude.{◌≡◌, ◌+◌, ◌%◌, ◌==◌, ◌<◌, ◌≤◌, ℕ, zero, suc, Bool, true, false, if◌then◌else◌, List, [], ◌∷◌, ◌++◌, map, length, slice_get, slice_index_or, Some}
use Rattle.std.specs.declared.alloc.Global.{Global}
use Rattle.atomic_blocks.specs.Lent.{RowsId}
use Rattle.crossbeam_deque.specs.Handles.{worker_deque, worker_view}
use Rattle.dpl_deal.specs.declared.view.PassView.{PassView}
use Rattle.dpl_deal.specs.declared.grip.Grip.{Grip}
use Rattle.dpl_deal.specs.declared.hand.Hand.{Hand}
use Rattle.dpl_deal.specs.declared.deal.Deal.{Deal}
use Rattle.dpl_deal.specs.Rule.{after_grip, once_below, times, total}
use Rattle.dpl_deal.specs.Grips.{AllEnded, AreWithin, grip_deque, joined, thief_deque, took_by}

abbrev pub own_view : Hand → PassView
own_view h = worker_view h.own

abbrev pub own_deque : Hand → RowsId × Global
own_deque h = worker_deque h.own

abbrev pub row_of : Hand → List Grip
row_of h = h.grips.items

abbrev pub views_of : List Hand → List PassView
views_of hs = map own_view hs

abbrev pub deques_of : List Hand → List (RowsId × Global)
deques_of hs = map own_deque hs

abbrev pub rows_of : List Hand → List (List Grip)
rows_of hs = map row_of hs

-- whether an end mark is due to the hand
abbrev pub marks_of : List Hand → List Bool
marks_of hs = map (λ (h : Hand). h.marked) hs

-- the tiles that a hand took: of its own deque, and then deque by deque
abbrev pub taken : Hand → List ℕ
taken h = (own_view h).took ++ took_by (row_of h)

-- the tiles that the hands took, together
abbrev pub all_taken : List Hand → List ℕ
all_taken [] = []
all_taken (h ∷ hs) = taken h ++ all_taken hs

-- the numbers below n, dealt round by round to so many hands: those of hand `me`
abbrev pub dealt_to : ℕ → ℕ → ℕ → List ℕ
dealt_to zero hands me = []
dealt_to (suc n) hands me = dealt_to n hands me ++ (if n % hands == me then n ∷ [] else [])

-- of each deque the hand has noted that no tile is left
abbrev pub IsDone : Hand → Type 0
IsDone h = AllEnded (row_of h)

-- each element is so, by its place
abbrev pub EachAt : {A : Type 0} → (ℕ → A → Type 0) → List A → Type 0
EachAt P xs = (i : ℕ) (d : _) → i < length xs → P i (slice_index_or xs i d)

-- a deque's view while the tiles below n are dealt to so many hands
pub record IsDealing (n hands me : ℕ) (v : PassView) : Type 0 where
  pub parts : v.parts ≡ 1024
  pub due : v.due ≡ 0
  pub ended : v.ended ≡ false
  pub limit : v.limit ≤ n
  pub took : v.took ≡ []
  pub dealt : v.dealt ≡ dealt_to n hands me

-- a deque's view where k grips are out, and the tiles below n were dealt to so many hands
pub record IsOut (k n hands me : ℕ) (v : PassView) : Type 0 where
  pub parts : v.parts + k ≡ 1024
  pub limit : v.limit ≤ n
  pub took : v.took ≡ []
  pub dealt : v.dealt ≡ dealt_to n hands me

-- these are grips on each of these deques, with which no tile was taken
pub record IsArmed (deques : List (RowsId × Global)) (n : ℕ) (row : List Grip) : Type 0 where
  pub grips : map grip_deque row ≡ deques
  pub within : AreWithin n row
  pub took : took_by row ≡ []

-- of the first n deques a grip was given out
abbrev pub gripped : ℕ → List PassView → List PassView
gripped zero vs = vs
gripped (suc n) [] = []
gripped (suc n) (v ∷ vs) = after_grip v ∷ gripped n vs

-- each deque's view with all hands' joined to it
abbrev pub joined_all : List PassView → List Hand → List PassView
joined_all vs [] = vs
joined_all vs (h ∷ hs) = joined_all (joined vs (row_of h)) hs

-- how often x was dealt
abbrev pub dealt_times : ℕ → List PassView → ℕ
dealt_times x vs = total (λ v. times x v.dealt) vs

-- how often x was taken
abbrev pub took_times : ℕ → List PassView → ℕ
took_times x vs = total (λ v. times x v.took) vs

abbrev pub deal_deques : Deal → List (RowsId × Global)
deal_deques deal = map thief_deque deal.thieves.items

-- It is the hand of this number of the deal. Its deque is the deal's deque of that number, to which each tile whose number
-- leaves the hand's number as its rest was dealt; where no end mark is due to it, it has noted that no tile is left there.
-- It has a grip on each deque of the deal
pub record IsHandOf (deal : Deal) (me : ℕ) (h : Hand) : Type 0 where
  pub deque : slice_get (deal_deques deal) me ≡ Some (own_deque h)
  pub dealt : (own_view h).dealt ≡ dealt_to deal.tiles (length (deal_deques deal)) me
  pub parts : (own_view h).parts + length (deal_deques deal) ≡ 1024
  pub limit : (own_view h).limit ≤ deal.tiles
  pub grips : map grip_deque (row_of h) ≡ deal_deques deal
  pub within : AreWithin deal.tiles (row_of h)
  pub notes : h.marked ≡ false → (own_view h).ended ≡ true

-- they are all hands of the deal, in order
abbrev pub AreHandsOf : Deal → List Hand → Type 0
AreHandsOf deal hs = (length hs ≡ length (deal_deques deal)) × EachAt (IsHandOf deal) hs

-- the list has each number below n once, and no other
abbrev pub HasEachOnce : ℕ → List ℕ → Type 0
HasEachOnce n xs = (x : ℕ) → times x xs ≡ once_below n x
