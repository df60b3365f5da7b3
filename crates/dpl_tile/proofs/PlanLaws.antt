-- What a plan finds.
use Rattle.std.proofs.Common.{◌≡◌, ℕ, ◌⊎◌, inl, inr, List, length, get_or, map, refl, ap, arith}
use Rattle.std.specs.Prelude.{◌↔◌, IfSome, slice_get, slice_index}
use Rattle.std.specs.List.{Contains}
use Rattle.std.proofs.lemmas.Bool.{cases_lt}
use Rattle.std.proofs.lemmas.Int.{ints}
use Rattle.std.proofs.lemmas.Option.{slice_get-map, slice_get_past, slice_get_read}
use Rattle.dpl_spec_split.specs.declared.Pt.{Pt}
use Rattle.dpl_spec_split.specs.declared.Rect.{Rect}
use Rattle.dpl_spec_split.specs.declared.Spacing.{Spacing}
use Rattle.dpl_spec_split.specs.Squares.{Has, Near}
use Rattle.dpl_spec_split.proofs.SquareLaws.{Near-sym}
use Rattle.dpl_join.specs.declared.items.Item.{Item}
use Rattle.dpl_join.specs.Pairs.{IsPair, item_at, no_item}
use Rattle.dpl_join.proofs.NearLaws.{near-close}
use Rattle.dpl_join.proofs.PairLaws.{close-flip}
use Rattle.dpl_tile.specs.declared.grid.Grid.{Grid}
use Rattle.dpl_tile.specs.declared.meetings.Meeting.{Meeting}
use Rattle.dpl_tile.specs.Meetings.{IsKept, IsMetByPair, reached}
use Rattle.dpl_tile.specs.Plans.{AreApart, HaveAllNear, Planned}
use Rattle.dpl_tile.specs.Tiles.{cell_at, number_in}
use Rattle.dpl_tile.proofs.CellLaws.{own-cell, square-met}
use Rattle.dpl_tile.proofs.ReachLaws.{reached-has, reached-over}

-- what a plan is seen as
abbrev pub planned : List (List Rect) → List ℕ → Spacing → List Item → Grid → List (ℕ × ℕ) → Planned
planned parts owners spacing items grid places = record { parts = parts; owners = owners; spacing = spacing; cells = map (cell_at grid) places; items = items }

module _ (parts : List (List Rect)) (owners : List ℕ) (spacing : Spacing) (items : List Item) (meetings : List Meeting) (grid : Grid) (places : List (ℕ × ℕ))
    (kept : IsKept parts owners spacing items meetings grid places) where
  apart-of : (m : Meeting) → Contains meetings m → AreApart (planned parts owners spacing items grid places) m.first m.second
  apart-of m c =
      let (pair, of) = (kept.met.all m).0 c in
      record { order = pair.order; known = pair.known; owners = of.foes.apart }

  -- near items meet in each cell that has a square of either that is near the other
  meets : (i j : ℕ) (p q : Pt) (e : ℕ × ℕ) → AreApart (planned parts owners spacing items grid places) i j → Has (item_at items i).rect p → Has (item_at items j).rect q → Near spacing p q
      → Has (cell_at grid e) p ⊎ Has (cell_at grid e) q → Contains meetings (record { place = e; first = i; second = j })
  meets i j p q e apart p_in q_in near here =
      let a = (item_at items i).rect in
      let b = (item_at items j).rect in
      let order = apart.order in
      let known = apart.known in
      let over_a = kept.over i no_item (omega (arith, order, known)) in
      let over_b = kept.over j no_item known in
      let pair : IsPair spacing.rule items (i, j) = record {
        order = order;
        known = known;
        apart = λ same. apart.owners (ap (slice_index owners) same);
        close = near-close spacing a b kept.corner (p, q, p_in, q_in, near);
      } in
      let met : IsMetByPair spacing.rule grid a b e = elim here [
        | inl h ↦ inl (square-met grid (reached spacing.rule a b) e p kept.sound.some (reached-over grid spacing.rule a b over_a over_b pair.close)
            (reached-has spacing a b p q kept.corner p_in q_in near) h)
        | inr h ↦ inr (square-met grid (reached spacing.rule b a) e q kept.sound.some (reached-over grid spacing.rule b a over_b over_a (close-flip spacing.rule a b pair.close))
            (reached-has spacing b a q p kept.corner q_in p_in (Near-sym spacing p q near)) h)
      ] in
      (kept.met.all (record { place = e; first = i; second = j })).1
      (pair, record { first = refl; second = refl; foes = record { apart = apart.owners; near = (p, q, p_in, q_in, near) }; met = met })

  pub all-near : HaveAllNear (planned parts owners spacing items grid places) (λ (p : Pt). Unit {0}) meetings
  all-near = record {
    apart = apart-of;
    all = λ i j p q apart p_in q_in near here.
        let order = apart.order in
        let known = apart.known in
        let over = kept.over i no_item (omega (arith, order, known)) in
        let left = p_in.left in
        let low = p_in.low in
        let right = over.right in
        let up = over.up in
        let e : ℕ × ℕ = (number_in grid.side grid.y p.y, number_in grid.side grid.x p.x) in
        let own = own-cell grid p kept.sound.some (omega (arith, ints, left, right)) (omega (arith, ints, low, up)) in
        (record { place = e; first = i; second = j }, meets i j p q e apart p_in q_in near (inl own), refl, refl);
  }

  pub place-near : (e : ℕ × ℕ) (ms : List Meeting) → ((m : Meeting) → Contains ms m ↔ (Contains meetings m × (m.place ≡ e)))
      → HaveAllNear (planned parts owners spacing items grid places) (Has (cell_at grid e)) ms
  place-near e ms found = record {
    apart = λ m c. apart-of m ((found m).0 c).0;
    all = λ i j p q apart p_in q_in near here.
        (record { place = e; first = i; second = j }, (found (record { place = e; first = i; second = j })).1 (meets i j p q e apart p_in q_in near here, refl), refl, refl);
  }

  pub cell-near : (tile : ℕ) (e : ℕ × ℕ) (ms : List Meeting) → e ≡ get_or places tile e → ((m : Meeting) → Contains ms m ↔ (Contains meetings m × (m.place ≡ e)))
      → IfSome (slice_get (map (cell_at grid) places) tile) (λ cell. HaveAllNear (planned parts owners spacing items grid places) (Has cell) ms)
  cell-near tile e ms is found = elim (cases_lt tile (length places)) [
    | inl l ↦ rw (slice_get-map (cell_at grid) places tile, slice_get_read places (length places) tile e refl l is) (place-near e ms found)
    | inr m ↦ rw (slice_get-map (cell_at grid) places tile, slice_get_past places tile m) tt
  ]
