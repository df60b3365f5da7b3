-- How many bytes of data records of some types have.
use Rattle.std.proofs.Common.{◌≡◌, ℕ, ◌≤◌, ◌%◌, Option, Some, None, subst, rules, arith}
use Rattle.std.specs.Prelude.{IfSome}
use Rattle.std.specs.Option.{ForSome}
use Rattle.std.proofs.lemmas.Bool.{eqb-true}
use Rattle.dpl_spec_format.specs.Kinds as kinds
use Rattle.dpl_spec_format.specs.Table.{form_of, IsSizeOf}
use Rattle.dpl_spec_format.specs.Table as format

-- what holds of a value that may be missing, in the form of a requirement
pub if_there : {T : Type 0} (o : Option T) (P Q : T → Type 0) → ((x : T) → P x → Q x) → IfSome o P → ForSome o Q
if_there None P Q h p x e = absurd cc
if_there (Some y) P Q h p x e = (let same : y ≡ x = cc in subst Q same (h y p))

at_least : (n len : ℕ) → len ≡ n → n ≤ len
at_least n len e = omega arith

pub layer_size : (len : ℕ) → IsSizeOf kinds.layer len → 2 ≤ len
unfolding format.form_of format.table
layer_size len sized = at_least 2 len (eqb-true len 2 sized)

pub datatype_size : (len : ℕ) → IsSizeOf kinds.datatype len → 2 ≤ len
unfolding format.form_of format.table
datatype_size len sized = at_least 2 len (eqb-true len 2 sized)

pub texttype_size : (len : ℕ) → IsSizeOf kinds.texttype len → 2 ≤ len
unfolding format.form_of format.table
texttype_size len sized = at_least 2 len (eqb-true len 2 sized)

pub nodetype_size : (len : ℕ) → IsSizeOf kinds.nodetype len → 2 ≤ len
unfolding format.form_of format.table
nodetype_size len sized = at_least 2 len (eqb-true len 2 sized)

pub boxtype_size : (len : ℕ) → IsSizeOf kinds.boxtype len → 2 ≤ len
unfolding format.form_of format.table
boxtype_size len sized = at_least 2 len (eqb-true len 2 sized)

pub pathtype_size : (len : ℕ) → IsSizeOf kinds.pathtype len → 2 ≤ len
unfolding format.form_of format.table
pathtype_size len sized = at_least 2 len (eqb-true len 2 sized)

pub strans_size : (len : ℕ) → IsSizeOf kinds.strans len → 2 ≤ len
unfolding format.form_of format.table
strans_size len sized = at_least 2 len (eqb-true len 2 sized)

pub width_size : (len : ℕ) → IsSizeOf kinds.width len → 4 ≤ len
unfolding format.form_of format.table
width_size len sized = at_least 4 len (eqb-true len 4 sized)

pub bgnextn_size : (len : ℕ) → IsSizeOf kinds.bgnextn len → 4 ≤ len
unfolding format.form_of format.table
bgnextn_size len sized = at_least 4 len (eqb-true len 4 sized)

pub endextn_size : (len : ℕ) → IsSizeOf kinds.endextn len → 4 ≤ len
unfolding format.form_of format.table
endextn_size len sized = at_least 4 len (eqb-true len 4 sized)

pub colrow_size : (len : ℕ) → IsSizeOf kinds.colrow len → 4 ≤ len
unfolding format.form_of format.table
colrow_size len sized = at_least 4 len (eqb-true len 4 sized)

pub colrow_first : (len : ℕ) → IsSizeOf kinds.colrow len → 2 ≤ len
colrow_first len sized = (let both : 4 ≤ len = colrow_size len sized in omega arith)

pub mag_size : (len : ℕ) → IsSizeOf kinds.mag len → 8 ≤ len
unfolding format.form_of format.table
mag_size len sized = at_least 8 len (eqb-true len 8 sized)

pub angle_size : (len : ℕ) → IsSizeOf kinds.angle len → 8 ≤ len
unfolding format.form_of format.table
angle_size len sized = at_least 8 len (eqb-true len 8 sized)

pub points_size : (len : ℕ) → IsSizeOf kinds.xy len → (8 ≤ len) × (len % 8 ≡ 0)
unfolding format.form_of format.table
points_size len sized = search rules
