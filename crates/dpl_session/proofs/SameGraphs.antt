-- Graphs with the same edges.
use Rattle.std.proofs.Common.{◌+◌, ℕ, Bool, List}
use Rattle.std.specs.Prelude.{◌↔◌}
use Rattle.dpl_spec_split.specs.Graphs.{Graph, IsDistance, IsRoot, Walk, stay, step}
use Rattle.dpl_spec_split.specs.Summary.{HasOddCycle, IsStar}
use Rattle.dpl_spec_split.specs.Colours.{AreRoots}
use Rattle.dpl_spec_split.specs.Cycle.{Climb, IsLevelEdge, IsOddRoot, IsParent, IsReported, last, up}

abbrev pub SameEdges : Graph → Graph → Type 0
SameEdges g h = (u v : ℕ) → g u v ↔ h u v

pub same_back : (g h : Graph) → SameEdges g h → SameEdges h g
same_back g h same u v = ((same u v).1, (same u v).0)

pub walk_same : (g h : Graph) → SameEdges g h → {u v n : ℕ} → Walk g u v n → Walk h u v n
walk_same g h same stay = stay
walk_same g h same (step e w) = step ((same _ _).0 e) (walk_same g h same w)

distance_same : (g h : Graph) → SameEdges g h → (u v n : ℕ) → IsDistance g u v n → IsDistance h u v n
distance_same g h same u v n d = record { walk = walk_same g h same d.walk; least = λ m w. d.least m (walk_same h g (same_back g h same) w) }

pub root_same : (g h : Graph) → SameEdges g h → (v root : ℕ) → IsRoot g v root → IsRoot h v root
root_same g h same v root r = record {
  reached = (r.reached.0, walk_same g h same r.reached.1);
  least = λ u w. r.least u (w.0, walk_same h g (same_back g h same) w.1);
}

star_same : (g h : Graph) → SameEdges g h → (v root : ℕ) (odd : Bool) → IsStar g v root odd → IsStar h v root odd
star_same g h same v root odd s = (root_same g h same v root s.0, s.1, distance_same g h same root v s.1 s.2, s.3)

pub roots_same : (g h : Graph) → SameEdges g h → (n : ℕ) (roots : List ℕ) (odds : List Bool) → AreRoots g n roots odds → AreRoots h n roots odds
roots_same g h same n roots odds r = record { lengths = r.lengths; stars = λ v l. star_same g h same v _ _ (r.stars v l) }

pub odd_same : (g h : Graph) → SameEdges g h → HasOddCycle g → HasOddCycle h
odd_same g h same c = (c.0, record { three = c.1.three; odd = c.1.odd; different = c.1.different; around = λ k l. (same _ _).0 (c.1.around k l) })

pub level_same : (g h : Graph) → SameEdges g h → (root : ℕ) (e : ℕ × ℕ) → IsLevelEdge g root e → IsLevelEdge h root e
level_same g h same root e l = record {
  order = l.order;
  joined_by = (same _ _).0 l.joined_by;
  level = (l.level.0, distance_same g h same root e.0 l.level.0 l.level.1, distance_same g h same root e.1 l.level.0 l.level.2);
}

parent_same : (g h : Graph) → SameEdges g h → (root child parent : ℕ) → IsParent g root child parent → IsParent h root child parent
parent_same g h same root child parent p = record {
  joined_by = (same _ _).0 p.joined_by;
  level = (p.level.0, distance_same g h same root parent p.level.0 p.level.1, distance_same g h same root child (p.level.0 + 1) p.level.2);
  least = λ u n e d f. p.least u n ((same _ _).1 e) (distance_same h g (same_back g h same) root u n d) (distance_same h g (same_back g h same) root child (n + 1) f);
}

pub climb_same : (g h : Graph) → SameEdges g h → (root top : ℕ) {v : ℕ} {us : List ℕ} → Climb g root top v us → Climb h root top v us
climb_same g h same root top (last p) = last (parent_same g h same root _ top p)
climb_same g h same root top (up p c) = up (parent_same g h same root _ _ p) (climb_same g h same root top c)

odd_root_same : (g h : Graph) → SameEdges g h → (root : ℕ) → IsOddRoot g root → IsOddRoot h root
odd_root_same g h same root r = record {
  has = (r.has.0, level_same g h same root r.has.0 r.has.1);
  least = λ s e l. r.least s e (level_same h g (same_back g h same) s e l);
}

pub reported_same : (g h : Graph) → SameEdges g h → (cycle : List ℕ) → IsReported g cycle → IsReported h cycle
reported_same g h same cycle r = record {
  root = r.root;
  edge = r.edge;
  top = r.top;
  us = r.us;
  vs = r.vs;
  odd = odd_root_same g h same r.root r.odd;
  on = level_same g h same r.root r.edge r.on;
  least = λ e l. r.least e (level_same h g (same_back g h same) r.root e l);
  first = climb_same g h same r.root r.top r.first;
  second = climb_same g h same r.root r.top r.second;
  meet = r.meet;
  apart = r.apart;
  is = r.is;
}
