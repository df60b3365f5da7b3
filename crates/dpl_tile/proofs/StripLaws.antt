-- The meetings found strip by strip.
use Rattle.std.proofs.Common.{◌≡◌, ℕ, ◌+◌, ◌≤◌, List, [], refl, sym, subst, arith}
use Rattle.std.specs.Prelude.{◌↔◌}
use Rattle.std.specs.List.{Contains}
use Rattle.dpl_spec_split.specs.declared.Spacing.{Spacing}
use Rattle.dpl_join.specs.Joins.{HaveHomes, IsPairOf, Joined, home_of}
use Rattle.dpl_join.specs.Listing.{Lists}
use Rattle.dpl_join.specs.Pairs.{IsPair}
use Rattle.dpl_tile.specs.declared.grid.Grid.{Grid}
use Rattle.dpl_tile.specs.declared.meetings.Meeting.{Meeting}
use Rattle.dpl_tile.specs.Adding.{Adds}
use Rattle.dpl_tile.specs.Meetings.{IsMeeting, IsMeetingAmong}
use Rattle.dpl_tile.proofs.Adding.{OfFirst, added-to_none, adds-next, adds-same}
use Rattle.dpl_tile.proofs.MeetingLaws.{IsMeetingIn, among-strip}

module _ (spacing : Spacing) (owners : List ℕ) (g : Grid) (join : Joined) where
  pub strips-more : (k : ℕ) (pairs : List (ℕ × ℕ)) (base old new : List Meeting) → join.rule ≡ spacing.rule → Lists (IsPairOf join k) pairs
      → Adds (OfFirst (IsMeetingIn spacing owners g join) k) base old → Adds (IsMeetingAmong spacing owners g join.items pairs) old new
      → Adds (OfFirst (IsMeetingIn spacing owners g join) (k + 1)) base new
  strips-more k pairs base old new rule lists before step =
      adds-next (IsMeetingIn spacing owners g join) k (k + 1) base old new (omega arith) (λ m e a b h. omega (arith, a, b)) before
      (adds-same (IsMeetingAmong spacing owners g join.items pairs) (IsMeetingIn spacing owners g join k) old new (among-strip spacing owners g join k pairs rule lists) step)

  pub strips-all : (n : ℕ) (none ms : List Meeting) → HaveHomes join → join.strips ≤ n → join.rule ≡ spacing.rule → none ≡ []
      → Adds (OfFirst (IsMeetingIn spacing owners g join) n) none ms → (m : Meeting) → Contains ms m ↔ IsMeeting spacing owners g join.items m
  strips-all n none ms homes all rule is adds m =
      let h = added-to_none (OfFirst (IsMeetingIn spacing owners g join) n) none ms is adds m in (
        λ c. (let (k, l, (home, meeting)) = h.0 c in meeting),
        λ (pair, of). (let home = homes (m.first, m.second) (subst (λ r. IsPair r join.items (m.first, m.second)) (sym rule) pair) in
            h.1 (home_of join (m.first, m.second), omega (arith, home, all), (refl, (pair, of)))),
      )
