use Rattle.std.proofs.Common.{◌≡◌, vec_len}
use Rattle.dpl_deal.specs.Hands.{EachAt, IsDealing, views_of}
use Rattle.dpl_deal.proofs.dealing.spread.Given as goal

abbrev pub invariant-loop-tile : goal.invariant-loop-tile
invariant-loop-tile l = (vec_len l.hands ≡ vec_len l.initial.hands)
    × EachAt (IsDealing l.tile (vec_len l.initial.hands)) (views_of l.hands.items)
