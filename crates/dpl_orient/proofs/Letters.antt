-- Tests on letters.
use Rattle.std.proofs.Common.{◌≡◌, Bool, true, false, not, ◌&&◌, ◌||◌, refl}
use Rattle.dpl_spec_split.specs.Colours.{differ}

not-not : (a : Bool) → not (not a) ≡ a
not-not true = refl
not-not false = refl

pub differ-assoc : (a b c : Bool) → differ a (differ b c) ≡ differ (differ a b) c
differ-assoc false b c = refl
differ-assoc true false c = refl
differ-assoc true true c = not-not c

pub or-false : (a : Bool) → (a || false) ≡ a
or-false true = refl
or-false false = refl

-- what agrees where the first holds
pub and-agree : (a f g : Bool) → (a ≡ true → f ≡ g) → (a && f) ≡ (a && g)
and-agree false f g h = refl
and-agree true f g h = h refl

pub first-holds : (a b c d x y z : Bool) → a ≡ true → b ≡ true → c ≡ false → x ≡ z → (((a && b) && x) || ((c && d) && y)) ≡ (a && z)
first-holds a b c d x y z ea eb ec ez = rw (ea, eb, ec, ez) (or-false z)

pub none-holds : (a b c d x y z : Bool) → a ≡ false → (c && d) ≡ false → (((a && b) && x) || ((c && d) && y)) ≡ (a && z)
none-holds a b c d x y z ea ecd = rw (ea, ecd) refl

pub second-holds : (a b c d x y z : Bool) → a ≡ false → c ≡ true → d ≡ true → y ≡ z → (((a && b) && x) || ((c && d) && y)) ≡ (c && z)
second-holds a b c d x y z ea ec ed ez = rw (ea, ec, ed, ez) refl

pub neither-holds : (a b c d x y : Bool) → (a && b) ≡ false → (c && d) ≡ false → (((a && b) && x) || ((c && d) && y)) ≡ false
neither-holds a b c d x y eab ecd = rw (eab, ecd) refl

pub third-none : (a b c d x y z : Bool) → (a && b) ≡ false → c ≡ false → (((a && b) && x) || ((c && d) && y)) ≡ (c && z)
third-none a b c d x y z eab ec = rw (eab, ec) refl
