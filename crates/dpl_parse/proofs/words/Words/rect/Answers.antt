use Rattle.std.proofs.Common.{◌≡◌, ◌≢◌, ◌++◌, arith, List, ℕ, rules}
use Rattle.std.specs.Fmt.{signed_decimal}
use Rattle.std.proofs.lemmas.Int.{ints}
use Rattle.dpl_spec_split.specs.declared.Rect.{Rect}
use Rattle.dpl_cert.specs.Grammar.{IsRect, rect_words}
use Rattle.dpl_parse.proofs.Numerals.{coordinate_kept, given_none, coordinate_same}
use Rattle.dpl_parse.proofs.words.Words.rect.Goals as goal

pub returns-clause-found : goal.returns-clause-found
returns-clause-found c =
    let a = c.in_ok-from.ensures.found in
    let b = c.in_ok-to.ensures.found in
    rw (
      coordinate_kept c.in_ok-from.from.x a.0.x,
      coordinate_kept c.in_ok-from.from.y a.0.y,
      coordinate_kept c.in_ok-to.to.x b.0.x,
      coordinate_kept c.in_ok-to.to.y b.0.y,
    ) (search rules)

pub returns-in_err-from-clause-none : goal.returns-in_err-from-clause-none
returns-in_err-from-clause-none c =
    let h : (r : Rect) (t : List (List ℕ)) → IsRect r → c.args.self.now ≢ rect_words r ++ t = λ r t f e. c.in_err-from.ensures.none
    (record { x = r.x0; y = r.y0 }) _ (record { x = f.x0; y = f.y0 }) e in given_none _ h

pub returns-in_err-to-clause-none : goal.returns-in_err-to-clause-none
returns-in_err-to-clause-none c =
    let h : (r : Rect) (t : List (List ℕ)) → IsRect r → c.args.self.now ≢ rect_words r ++ t = λ r t f e. c.in_err-to.ensures.none
    (record { x = r.x1; y = r.y1 }) t (record { x = f.x1; y = f.y1 }) (let a = c.in_ok-from.ensures.found.1 in cc) in given_none _ h

pub returns-then-from-to-clause-none : goal.returns-then-from-to-clause-none
returns-then-from-to-clause-none c = λ r t f e.
    let a = c.in_ok-from.ensures.found in
    let b = c.in_ok-to.ensures.found in
    let aa = a.1 in
    let bb = b.1 in
    let p : signed_decimal c.in_ok-from.from.x ≡ signed_decimal r.x0 = cc in
    let q : signed_decimal c.in_ok-to.to.x ≡ signed_decimal r.x1 = cc in
    let s = coordinate_same c.in_ok-from.from.x r.x0 a.0.x f.x0 p in
    let u = coordinate_same c.in_ok-to.to.x r.x1 b.0.x f.x1 q in
    omega (arith, ints)

pub returns-then-from-to-2-clause-none : goal.returns-then-from-to-2-clause-none
returns-then-from-to-2-clause-none c = λ r t f e.
    let a = c.in_ok-from.ensures.found in
    let b = c.in_ok-to.ensures.found in
    let aa = a.1 in
    let bb = b.1 in
    let p : signed_decimal c.in_ok-from.from.y ≡ signed_decimal r.y0 = cc in
    let q : signed_decimal c.in_ok-to.to.y ≡ signed_decimal r.y1 = cc in
    let s = coordinate_same c.in_ok-from.from.y r.y0 a.0.y f.y0 p in
    let u = coordinate_same c.in_ok-to.to.y r.y1 b.0.y f.y1 q in
    omega (arith, ints)
