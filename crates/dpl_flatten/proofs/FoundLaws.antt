-- The marked structures are those that the top reaches.
use Rattle.std.proofs.Common.{◌≡◌, ℕ, Bool, List, Some, None, length, ◌∙◌}
use Rattle.dpl_spec_format.specs.Tree.{Library, Element}
use Rattle.dpl_spec_layout.specs.declared.Layer.{Layer}
use Rattle.dpl_spec_layout.specs.declared.FlattenFault.{FlattenFault}
use Rattle.dpl_spec_layout.specs.Faults.{Finding, IsFound, IsNowhere, IsNoneBefore, IsFirst, IsFirstFault, IsRefused, IsWhole}
use Rattle.dpl_links.specs.Graph.{AreReached, IsMarked, here}
use Rattle.dpl_links.proofs.SpreadLaws.{marked_below}
use Rattle.dpl_flatten.specs.Links.{IsGraphOf}
use Rattle.dpl_flatten.specs.Least.{IsLeastOf, AmongMarked}
use Rattle.dpl_flatten.specs.Drawn.{IsRefusalOf, HasRefusalAt}
use Rattle.dpl_flatten.proofs.ReachLaws.{reaches_in_layout, reaches_in_graph}

module _ (lib : Library) (graph : List (List ℕ)) (top : ℕ) (marks : List Bool) (g : IsGraphOf lib graph) (reached : AreReached graph top marks) where
  pub found_of : (P : Finding) (k : ℕ) (e : Element) → AmongMarked lib marks (length marks) P k e → IsFound lib top P k e
  found_of P k e a = record { reached = reaches_in_layout g (reached.sound k a.1); inside = a.2; holds = a.3 }

  pub among_of : (P : Finding) (k : ℕ) (e : Element) → IsFound lib top P k e → AmongMarked lib marks (length marks) P k e
  among_of P k e f = let m = reached.complete k (reaches_in_graph g f.reached) in (marked_below marks k m, m, f.inside, f.holds)

  pub nowhere_of : (P : Finding) → IsLeastOf (AmongMarked lib marks (length marks) P) None → IsNowhere lib top P
  nowhere_of P l k e f = l k e (among_of P k e f)

  pub none_before_of : (P : Finding) (at : ℕ) → IsLeastOf (AmongMarked lib marks (length marks) P) (Some at) → IsNoneBefore lib top P at
  none_before_of P at l k e f = l.1 k e (among_of P k e f)

  pub first_of : (P : Finding) (at : ℕ) → IsLeastOf (AmongMarked lib marks (length marks) P) (Some at) → IsFirst lib top P at
  first_of P at l = record {
    some = (l.0.0, l.0.1, found_of P l.0.0 l.0.1 l.0.2, l.0.3);
    least = none_before_of P at l;
  }

  pub refusal_first : (layer : Layer) (at : ℕ) (f : FlattenFault) → IsWhole lib top
      → IsLeastOf (AmongMarked lib marks (length marks) (IsRefused layer)) (Some at) → IsRefusalOf lib layer marks at f
      → IsFirstFault lib top layer f
  refusal_first layer at f whole l s =
      let k = s.0 in
      let e = s.1 in
      let q = s.4 in
      rw q.3 (
        whole,
        record {
          some = (
            k,
            e,
            record { reached = reaches_in_layout g (reached.sound k s.2); inside = s.3; holds = q.1 },
            q.2,
          );
          least = none_before_of (IsRefused layer) at l;
        },
      )

  pub refusal_there : (layer : Layer) (at : ℕ) → IsLeastOf (AmongMarked lib marks (length marks) (IsRefused layer)) (Some at) → HasRefusalAt lib layer marks at
  refusal_there layer at l = let s = l.0 in (s.0, s.1, s.2.0, s.2.1, s.2.2, s.3, s.2.3.0, s.2.3.1)

  pub marks_each : length marks ≡ length lib.structures
  marks_each = reached.each ∙ g.each

  pub top_marked : IsMarked marks top
  top_marked = reached.complete top here
