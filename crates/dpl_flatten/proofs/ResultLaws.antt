-- What the walk gathered is the layer, and what it noted is out of range.
use Rattle.std.proofs.Common.{◌≡◌, ℕ, zero, suc, ◌+◌, ◌-◌, ◌≤◌, ◌⊎◌, inl, inr, ⊎_elim, Bool, ℤ, neg_ℤ, ◌+ℤ◌, List, [], ◌∷◌, Option, Some}
use Rattle.std.proofs.Common.{None, cond, true, false, map, length, get_or, refl, sym, ap, arith}
use Rattle.std.specs.List.{All, Contains}
use Rattle.std.specs.Prelude.{◌↔◌}
use Rattle.std.proofs.lemmas.List.{get_or-map, length-map}
use Rattle.std.proofs.lemmas.List.Elements.{Contains-get_or}
use Rattle.dpl_spec_split.specs.declared.Pt.{Pt}
use Rattle.dpl_spec_split.specs.Loops.{SomeLoopCovers, IsRectilinear, IsLevelOrUpright, ArePointsWithin, farthest}
use Rattle.dpl_spec_elements.specs.Motions.{Motion, image, turned, reflected, moved}
use Rattle.dpl_spec_format.specs.Tree.{Library, Element}
use Rattle.dpl_spec_layout.specs.declared.Layer.{Layer}
use Rattle.dpl_spec_layout.specs.Elements.{loops_of}
use Rattle.dpl_spec_layout.specs.Structures.{Reaches, here, on}
use Rattle.dpl_spec_layout.specs.Placements.{Step, Leads, IsPlacement, placed, IsInLayer}
use Rattle.dpl_spec_layout.specs.Faults.{IsFound, IsOut, IsNowhere, IsFirst}
use Rattle.dpl_links.specs.Graph.{IsMarked}
use Rattle.dpl_walk.specs.declared.cells.Cell.{Cell}
use Rattle.dpl_flatten.specs.Links.{IsLinked}
use Rattle.dpl_walk.specs.Cells.{copy_motion}
use Rattle.dpl_walk.specs.Least.{IsAtMost}
use Rattle.dpl_walk.specs.Walk.{Pass, Passes, through, IsShown, IsWalk}
use Rattle.dpl_flatten.specs.Cells.{AreCells}
use Rattle.dpl_walk.proofs.ListLaws.{Contains-map, Contains-map_cases}
use Rattle.dpl_flatten.proofs.PlacedLaws.{IsOfPlacement, to_layout, from_layout}

-- ---- edges stay parallel to the axes

keeps_turned : (n : ℕ) (p q : Pt) → IsLevelOrUpright p q → IsLevelOrUpright (turned n p) (turned n q)
keeps_turned zero p q h = h
keeps_turned (suc n) p q h = ⊎_elim (λ e. inr e) (λ e. inl (ap neg_ℤ e)) (keeps_turned n p q h)

keeps_reflected : (b : Bool) (p q : Pt) → IsLevelOrUpright p q → IsLevelOrUpright (cond b (reflected p) p) (cond b (reflected q) q)
keeps_reflected true p q h = ⊎_elim (λ e. inl e) (λ e. inr (ap neg_ℤ e)) h
keeps_reflected false p q h = h

keeps_moved : (dx dy : ℤ) (p q : Pt) → IsLevelOrUpright p q → IsLevelOrUpright (moved dx dy p) (moved dx dy q)
keeps_moved dx dy p q h = ⊎_elim (λ e. inl (ap (λ x. x +ℤ dx) e)) (λ e. inr (ap (λ y. y +ℤ dy) e)) h

keeps_image : (m : Motion) (p q : Pt) → IsLevelOrUpright p q → IsLevelOrUpright (image m p) (image m q)
keeps_image m p q h = keeps_moved m.dx m.dy _ _ (keeps_turned m.turns _ _ (keeps_reflected m.reflect p q h))

keeps_through : (ss : List Pass) (p q : Pt) → IsLevelOrUpright p q → IsLevelOrUpright (through ss p) (through ss q)
keeps_through [] p q h = h
keeps_through (s ∷ ss) p q h = keeps_image (copy_motion s.copies s.column s.row) _ _ (keeps_through ss p q h)

straight_map : (f : Pt → Pt) → ((p q : Pt) → IsLevelOrUpright p q → IsLevelOrUpright (f p) (f q)) → (ps : List Pt) → IsRectilinear ps → IsRectilinear (map f ps)
straight_map f keeps [] r = record {
  between = λ k d h. absurd (omega arith);
  closing = λ d. inl refl;
}
straight_map f keeps (p ∷ ps) r = record {
  between = λ k d h. let n : suc k ≤ length (p ∷ ps) - 1 = omega (arith, h, length-map (p ∷ ps) f) in
      rw (get_or-map f (p ∷ ps) k p d (omega (arith, n)), get_or-map f (p ∷ ps) (k + 1) p d (omega (arith, n))) (keeps _ _ (r.between k p n));
  closing = λ d. rw (length-map (p ∷ ps) f, get_or-map f (p ∷ ps) (length (p ∷ ps) - 1) p d (omega arith), get_or-map f (p ∷ ps) 0 p d (omega arith)) (keeps _ _ (r.closing p));
}

leads_reach : (lib : Library) (steps : List Step) (k l : ℕ) → Leads lib k steps l → Reaches lib k l
leads_reach lib [] k l d = rw d here
leads_reach lib (s ∷ ss) k l d = on (s.element, d.1.inside, d.1.target) (leads_reach lib ss d.0 l d.2)

module _ (lib : Library) (layer : Layer) (graph : List (List ℕ)) (marks : List Bool) (cells : List Cell) (links : IsLinked lib graph marks)
    (are : AreCells lib layer marks cells) (top : ℕ) (m : IsMarked marks top) (loops : List (List Pt)) (far : Option ℕ)
    (walk : IsWalk cells top loops far) where
  placement_of : (ps : List Pt) (at : ℕ) → IsShown cells top (λ p. p) ps at → IsOfPlacement lib layer top (λ p. p) ps at
  placement_of ps at s = let r = to_layout lib layer graph marks cells links are s.0 top s.1 (λ p. p) s.2 m s.3 s.4 in rw (s.5, s.6) r

  gathered : (steps : List Step) (l : ℕ) (e : Element) (qs : List Pt) → IsPlacement lib top steps l e → Contains (loops_of layer e.body) qs
      → Contains loops (map (placed steps) qs) × (ArePointsWithin farthest (map (placed steps) qs) ⊎ IsAtMost far e.at)
  gathered steps l e qs p q = walk.complete (map (placed steps) qs) e.at (from_layout lib layer graph marks cells links are steps top l (λ x. x) e qs m p.leads p.inside q)

  pub covers : (s : Pt) → SomeLoopCovers loops s ↔ IsInLayer lib top layer s
  covers s = (λ a. to s a, λ a. from s a)
    where
      to : (s : Pt) → SomeLoopCovers loops s → IsInLayer lib top layer s
      to s a =
          let w = walk.sound a.1 (a.0, a.2, a.3) in
          let r = placement_of a.1 w.0 w.1 in
          let c = Contains-map (λ qs. map (placed r.0) qs) (loops_of layer r.2.body) r.3 r.5 in
          (r.0, r.1, r.2, r.4, (c.0, map (placed r.0) r.3, c.1, c.2, rw (← r.6) a.4))

      from : (s : Pt) → IsInLayer lib top layer s → SomeLoopCovers loops s
      from s a =
          let x = a.4 in
          let c = Contains-map_cases (λ qs. map (placed a.0) qs) (loops_of layer a.2.body) x.1 (x.0, x.2, x.3) in
          let g = gathered a.0 a.1 a.2 c.0 a.3 c.1 in
          (g.0.0, map (placed a.0) c.0, g.0.1, g.0.2, rw c.2 x.4)

  pub straight : All IsRectilinear loops
  straight k d h =
      let ps = get_or loops k d in
      let w = walk.sound (get_or loops k d) (Contains-get_or loops k d h) in
      let s = w.1 in
      let marked = last_marked s.0 top s.1 m s.3 in
      rw s.5 (straight_map (through s.0) (keeps_through s.0) s.2.points ((are.marked s.1 marked).straight s.2 s.4))
    where
      last_marked : (ss : List Pass) (k l : ℕ) → IsMarked marks k → Passes cells k ss l → IsMarked marks l
      last_marked [] k l h e = rw (← e) h
      last_marked (s ∷ ss) k l h e = let p = (are.marked k h).placed s.copies e.0 in
          last_marked ss s.copies.target l (links.closed k s.copies.target h (links.graph_of.refers k s.copies.target (p.0, p.1, p.2))) e.3

  pub nowhere_out : far ≡ None → IsNowhere lib top (IsOut lib top layer)
  nowhere_out none k e f =
      let o = f.holds in
      let c = Contains-map_cases (λ qs. map (placed o.0) qs) (loops_of layer e.body) o.1 o.4 in
      let g = gathered o.0 k e c.0 o.3 c.1 in
      ⊎_elim (λ (x : ArePointsWithin farthest (map (placed o.0) c.0)). o.6 (x o.2 (rw c.2 o.5))) (λ (x : IsAtMost far e.at). absurd (rw none at x)) g.1

  pub first_out : (at : ℕ) → far ≡ Some at → IsFirst lib top (IsOut lib top layer) at
  first_out at some = record {
    some =
        let o = walk.out at some in
        let r = placement_of o.0 at o.1 in
        let c = Contains-map (λ qs. map (placed r.0) qs) (loops_of layer r.2.body) r.3 r.5 in (
          r.1,
          r.2,
          record {
            reached = leads_reach lib r.0 top r.1 r.4.leads;
            inside = r.4.inside;
            holds = (
              r.0,
              map (placed r.0) r.3,
              o.2.0,
              r.4,
              c,
              rw (← r.6) o.2.1,
              o.2.2,
            );
          },
          sym r.7,
        );
    least = λ k e f. not_before k e f;
  }
    where
      not_before : (k : ℕ) (e : Element) → IsFound lib top (IsOut lib top layer) k e → at ≤ e.at
      not_before k e f =
          let o = f.holds in
          let c = Contains-map_cases (λ qs. map (placed o.0) qs) (loops_of layer e.body) o.1 o.4 in
          let g = gathered o.0 k e c.0 o.3 c.1 in
          ⊎_elim (λ (x : ArePointsWithin farthest (map (placed o.0) c.0)). absurd (o.6 (x o.2 (rw c.2 o.5))))
          (λ (x : IsAtMost far e.at). let y : IsAtMost (Some at) e.at = rw some at x in y) g.1
