-- What a pop and the tries to steal leave of a hand.
use Rattle.std.proofs.Common.{◌≡◌, ◌∙◌, ◌+◌, ◌<◌, ◌≤◌, ℕ, true, false, List, [], ◌∷◌, ◌++◌, length, map, get_or, sym, ap, subst, arith, Option, Some, None}
use Rattle.std.specs.Prelude.{IfSome}
use Rattle.std.proofs.lemmas.List.{length-map, get_or-map}
use Rattle.crossbeam_deque.specs.Handles.{worker_deque, worker_view}
use Rattle.dpl_deal.specs.declared.view.PassView.{PassView}
use Rattle.dpl_deal.specs.declared.grip.Grip.{Grip}
use Rattle.dpl_deal.specs.declared.grip.Thief.{Thief}
use Rattle.dpl_deal.specs.declared.hand.Hand.{Hand}
use Rattle.dpl_deal.specs.declared.deal.Deal.{Deal}
use Rattle.dpl_deal.specs.Rule.{times}
use Rattle.dpl_deal.specs.Grips.{AllEnded, AreWithin, EndedBelow, Tried, grip_deque, thief_deque, took_by}
use Rattle.dpl_deal.specs.Hands.{IsDone, IsHandOf, deal_deques, own_deque, own_view, row_of, taken}
use Rattle.dpl_deal.proofs.Moves.{times-append}

view_of : (a b : Hand) → a.own ≡ b.own → own_view a ≡ own_view b
view_of a b e = ap (λ o. worker_view o) e

pub popped : (deal : Deal) (old new : Hand) (t : Option ℕ) → ((me : ℕ) × IsHandOf deal me old)
    → IfSome t (λ u. ((own_view new).took ≡ (own_view old).took ++ u ∷ []) × (u < (own_view old).limit)) → new.grips ≡ old.grips
    → IfSome t (λ u. (u < deal.tiles) × ((x : ℕ) → times x (taken new) ≡ times x (taken old) + times x (u ∷ [])))
popped deal old new None is h g = tt
popped deal old new (Some u) is h g =
    let l = is.1.limit in let lt = h.1 in (
      omega (arith, l, lt),
      λ x. let a = ap (times x) h.0 in let b : times x (took_by (row_of new)) ≡ times x (took_by (row_of old)) = ap (λ v. times x (took_by v.items)) g in
          omega (
            arith,
            a,
            b,
            times-append x (own_view new).took (took_by (row_of new)),
            times-append x (own_view old).took
                (took_by (row_of old)),
            times-append x (own_view old).took (u ∷ []),
          ),
    )

pub stolen : (deal : Deal) (old mid new : Hand) (t : Option ℕ) → ((me : ℕ) × IsHandOf deal me old)
    → (own_view mid).took ≡ (own_view old).took → mid.grips ≡ old.grips → new.own ≡ mid.own → Tried (row_of mid) t (row_of new)
    → IfSome t (λ u. (u < deal.tiles) × ((x : ℕ) → times x (taken new) ≡ times x (taken old) + times x (u ∷ [])))
stolen deal old mid new None is took g own h = tt
stolen deal old mid new (Some u) is took g own h = (
  h.below deal.tiles (subst (λ v. AreWithin deal.tiles v.items) (sym g) is.1.within),
  λ x. let a : times x (own_view new).took ≡ times x (own_view mid).took = ap (λ (v : PassView). times x v.took) (view_of new mid own) in
      let b = ap (times x) took in let d : times x (took_by (row_of mid)) ≡ times x (took_by (row_of old)) = ap (λ v. times x (took_by v.items)) g in let s = h.some x in
      omega (arith, a, b, d, s, times-append x (own_view new).took (took_by (row_of new)), times-append x (own_view old).took (took_by (row_of old))),
)

pub kept : (deal : Deal) (me : ℕ) (old mid new : Hand) (t : Option ℕ) → own_deque mid ≡ own_deque old
    → (own_view mid).parts ≡ (own_view old).parts → (own_view mid).limit ≡ (own_view old).limit → (own_view mid).dealt ≡ (own_view old).dealt
    → mid.grips ≡ old.grips → new.own ≡ mid.own → Tried (row_of mid) t (row_of new) → ((old.marked ≡ false → (own_view old).ended ≡ true)
    → mid.marked ≡ false → (own_view mid).ended ≡ true) → new.marked ≡ mid.marked → IsHandOf deal me old → IsHandOf deal me new
kept deal me old mid new t q p l d g own h notes marked is =
    let w = view_of new mid own in record {
      deque = is.deque ∙ ap Some (sym (ap (λ o. worker_deque o) own ∙ q));
      dealt = ap (λ (v : PassView). v.dealt) w ∙ d ∙ is.dealt;
      parts = (let a = ap (λ (v : PassView). v.parts) w in let b = is.parts in omega (arith, a, b, p));
      limit = (let a = ap (λ (v : PassView). v.limit) w in let b = is.limit in omega (arith, a, b, l));
      grips = h.deques ∙ ap (λ v. map grip_deque v.items) g ∙ is.grips;
      within = h.within deal.tiles (subst (λ v. AreWithin deal.tiles v.items) (sym g) is.within);
      notes = λ f. ap (λ (v : PassView). v.ended) w ∙ notes is.notes (sym marked ∙ f);
    }

-- where no tile was popped none is left in the hand's own deque
pub noted : (deal : Deal) (old mid new : Hand) → ((me : ℕ) × IsHandOf deal me old) → mid.marked ≡ false
    → ((old.marked ≡ false → (own_view old).ended ≡ true) → mid.marked ≡ false → (own_view mid).ended ≡ true) → new.own ≡ mid.own
    → (own_view new).ended ≡ true
noted deal old mid new is m notes own = ap (λ (v : PassView). v.ended) (view_of new mid own) ∙ notes is.1.notes m

pub grip_place : (deal : Deal) (gs : List Grip) (i : ℕ) → map grip_deque gs ≡ deal_deques deal → i < length deal.thieves.items → i < length gs
grip_place deal gs i e lt = omega (arith, lt, ap length e, length-map gs grip_deque, length-map deal.thieves.items thief_deque)

pub grip_fits : (deal : Deal) (gs : List Grip) (i : ℕ) (t : Thief) → map grip_deque gs ≡ deal_deques deal → i < length deal.thieves.items
    → t ≡ get_or deal.thieves.items i t → (d : Grip) → grip_deque (get_or gs i d) ≡ thief_deque t
grip_fits deal gs i t e lt is d =
    sym (get_or-map grip_deque gs i d (grip_deque d) (grip_place deal gs i e lt)) ∙ ap (λ l. get_or l i (grip_deque d)) e
    ∙ get_or-map thief_deque deal.thieves.items i t (grip_deque d) lt ∙ ap thief_deque (sym is)

pub done_same : (old new : Hand) → new.grips ≡ old.grips → IsDone old → IsDone new
done_same old new g done = subst (λ v. AllEnded v.items) (sym g) done

-- what is noted stays so over tries
pub done_tried : (old mid new : Hand) (t : Option ℕ) → mid.grips ≡ old.grips → Tried (row_of mid) t (row_of new) → IsDone old → IsDone new
done_tried old mid new t g h done =
    let was : IsDone mid = done_same old mid g done in
    h.ended (length (row_of new)) (λ j d l. was j d (omega (arith, l, ap length h.deques, length-map (row_of new) grip_deque, length-map (row_of mid) grip_deque)))

-- where no tile was popped and every deque was tried, none is left
pub emptied : (deal : Deal) (old mid new : Hand) (at : ℕ) → ((me : ℕ) × IsHandOf deal me old) → (own_view mid).took ≡ (own_view old).took
    → mid.grips ≡ old.grips → new.own ≡ mid.own → Tried (row_of mid) None (row_of new) → EndedBelow at (row_of new)
    → length deal.thieves.items ≤ at → (taken new ≡ taken old) × IsDone new
emptied deal old mid new at is took g own h ended all =
    let e : map grip_deque (row_of new) ≡ deal_deques deal = h.deques ∙ ap (λ v. map grip_deque v.items) g ∙ is.1.grips in (
      ap (λ ts. ts ++ took_by (row_of new)) (ap (λ (v : PassView). v.took) (view_of new mid own) ∙ took)
          ∙ ap (λ ts. (own_view old).took ++ ts) (h.none ∙ ap (λ v. took_by v.items) g),
      λ k d l. ended k d (omega (arith, l, all, ap length e, length-map (row_of new) grip_deque, length-map deal.thieves.items thief_deque)),
    )
