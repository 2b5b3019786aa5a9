-- Laws of normal and canonical forms together.
use Rattle.std.specs.Prelude.{◌≡◌, ℕ, ◌≤◌, true, List}
use Rattle.std.specs.declared.option.Option.TheVariants.{Some}
use Rattle.shape_data.specs.declared.program.StructDef.{StructDef}
use Rattle.shape_data.specs.declared.symbolic.Post.{Post}
use Rattle.shape_data.specs.declared.symbolic.SymState.{SymState}
use Rattle.shape_data.specs.WellFormed.{IsState, Limits}
use Rattle.sym_pure.specs.IsNormal.{is_normal}
use Rattle.sym_canon.specs.declared.parts.Pair.{Pair}
use Rattle.sym_canon.specs.Canonical.{as_state, canon_pair, canon_post, canon_state, without_locals}
use Rattle.sym_forms.specs.PairForms.{pair_form}
use Rattle.sym_forms.specs.Sizes.{Brings, most_exps}

-- the canonical form of a normal state is normal
abbrev pub CanonStateIsNormal : Type 0
CanonStateIsNormal = (state : SymState) (params : ℕ) → is_normal state ≡ true → is_normal (canon_state state params) ≡ true

-- and of a post whose heap, with its result, is normal
abbrev pub CanonPostIsNormal : Type 0
CanonPostIsNormal = (post : Post) (params : ℕ) → is_normal (as_state post) ≡ true → is_normal (as_state (canon_post post params)) ≡ true

-- the parts of a pair's normal form are normal
abbrev pub PairFormIsNormal : Type 0
PairFormIsNormal =
    (params : ℕ) (pair form : Pair) → pair_form params pair ≡ Some form →
    (is_normal (without_locals form.missing) ≡ true) × (is_normal form.state ≡ true)

-- numbering a pair's logical variables leaves the missing heap of its normal form normal. (Not so the state: an equation
-- between two of these variables may then be solved for the smaller one. It is brought to its normal form again before it
-- is executed.)
abbrev pub CanonPairKeepsMissingNormal : Type 0
CanonPairKeepsMissingNormal =
    (params : ℕ) (pair form : Pair) → params ≤ 65536 → pair_form params pair ≡ Some form →
    is_normal (without_locals (canon_pair form.missing form.state params).missing) ≡ true

-- the canonical form is well formed within other limits, where numbering brings what is within the first limits within these
abbrev pub CanonStateIsWellFormed : Type 0
CanonStateIsWellFormed =
    (from to : Limits) (structs : List StructDef) (params slots : ℕ) (state : SymState) → Brings from to params (most_exps state) →
    IsState from structs params slots state → IsState to structs params slots (canon_state state params)
