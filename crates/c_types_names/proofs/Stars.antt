-- Types by the number of stars.
use Rattle.std.proofs.Common.{◌≡◌, ℕ, zero, suc, Bool, true, false, ◌==◌, ◌&&◌, Some, None, if◌then◌else◌, refl, arith}
use Rattle.shape_data.specs.declared.program.Ty.TheVariants.{Int, Void}
use Rattle.c_grammar.specs.Trees.{Specifier}
use Rattle.c_types_rules.specs.Tables.{Tables, pointer_of, names_structure, object_kind, may_be_object, result_kind, may_be_result}
use Rattle.c_types_names.specs.Specifiers.{is_int, is_void}

two_zero : (n : ℕ) → (suc (suc n) == 0) ≡ false
two_zero n = grind (arith)

two_one : (n : ℕ) → (suc (suc n) == 1) ≡ false
two_one n = grind (arith)

one_zero : (n : ℕ) → (suc n == 0) ≡ false
one_zero n = grind (arith)

neither : {A : Type 0} (zero_stars one_star fits : Bool) (x y z : A) → zero_stars ≡ false → one_star ≡ false
    → z ≡ (if zero_stars && fits then x else (if one_star then y else z))
neither zero_stars one_star fits x y z none more = rw (none, more) refl

no_object : (zero_stars one_star fits names : Bool) → zero_stars ≡ false → one_star ≡ false
    → false ≡ (if zero_stars && fits then true else (one_star && names))
no_object zero_stars one_star fits names none more = rw (none, more) refl

some_stars : {A : Type 0} (zero_stars fits : Bool) (x z : A) → zero_stars ≡ false → z ≡ (if zero_stars && fits then x else z)
some_stars zero_stars fits x z none = rw none refl

pub object_kind_by : (tables : Tables) (s : Specifier) (n : ℕ)
    → object_kind tables s n ≡ (if (n == 0) && is_int s then Some Int else (if n == 1 then pointer_of tables s else None))
object_kind_by tables (Specifier.Int place) zero = refl
object_kind_by tables (Specifier.Void place) zero = refl
object_kind_by tables (Specifier.Struct place tag) zero = refl
object_kind_by tables (Specifier.Alias n) zero = refl
object_kind_by tables (Specifier.Int place) (suc zero) = refl
object_kind_by tables (Specifier.Void place) (suc zero) = refl
object_kind_by tables (Specifier.Struct place tag) (suc zero) = refl
object_kind_by tables (Specifier.Alias n) (suc zero) = refl
object_kind_by tables (Specifier.Int place) (suc (suc n)) =
    neither (suc (suc n) == 0) (suc (suc n) == 1) (is_int (Specifier.Int place)) (Some Int) (pointer_of tables (Specifier.Int place)) None
    (two_zero n) (two_one n)
object_kind_by tables (Specifier.Void place) (suc (suc n)) =
    neither (suc (suc n) == 0) (suc (suc n) == 1) (is_int (Specifier.Void place)) (Some Int) (pointer_of tables (Specifier.Void place)) None
    (two_zero n) (two_one n)
object_kind_by tables (Specifier.Struct place tag) (suc (suc n)) =
    neither (suc (suc n) == 0) (suc (suc n) == 1) (is_int (Specifier.Struct place tag)) (Some Int)
    (pointer_of tables (Specifier.Struct place tag)) None (two_zero n) (two_one n)
object_kind_by tables (Specifier.Alias m) (suc (suc n)) =
    neither (suc (suc n) == 0) (suc (suc n) == 1) (is_int (Specifier.Alias m)) (Some Int) (pointer_of tables (Specifier.Alias m)) None
    (two_zero n) (two_one n)

pub may_be_object_by : (s : Specifier) (n : ℕ)
    → may_be_object s n ≡ (if (n == 0) && is_int s then true else ((n == 1) && names_structure s))
may_be_object_by (Specifier.Int place) zero = refl
may_be_object_by (Specifier.Void place) zero = refl
may_be_object_by (Specifier.Struct place tag) zero = refl
may_be_object_by (Specifier.Alias n) zero = refl
may_be_object_by (Specifier.Int place) (suc zero) = refl
may_be_object_by (Specifier.Void place) (suc zero) = refl
may_be_object_by (Specifier.Struct place tag) (suc zero) = refl
may_be_object_by (Specifier.Alias n) (suc zero) = refl
may_be_object_by (Specifier.Int place) (suc (suc n)) =
    no_object (suc (suc n) == 0) (suc (suc n) == 1) (is_int (Specifier.Int place)) (names_structure (Specifier.Int place)) (two_zero n)
    (two_one n)
may_be_object_by (Specifier.Void place) (suc (suc n)) =
    no_object (suc (suc n) == 0) (suc (suc n) == 1) (is_int (Specifier.Void place)) (names_structure (Specifier.Void place)) (two_zero n)
    (two_one n)
may_be_object_by (Specifier.Struct place tag) (suc (suc n)) =
    no_object (suc (suc n) == 0) (suc (suc n) == 1) (is_int (Specifier.Struct place tag)) (names_structure (Specifier.Struct place tag))
    (two_zero n) (two_one n)
may_be_object_by (Specifier.Alias m) (suc (suc n)) =
    no_object (suc (suc n) == 0) (suc (suc n) == 1) (is_int (Specifier.Alias m)) (names_structure (Specifier.Alias m)) (two_zero n)
    (two_one n)

pub result_kind_by : (tables : Tables) (s : Specifier) (n : ℕ)
    → result_kind tables s n ≡ (if (n == 0) && is_void s then Some Void else object_kind tables s n)
result_kind_by tables (Specifier.Int place) zero = refl
result_kind_by tables (Specifier.Void place) zero = refl
result_kind_by tables (Specifier.Struct place tag) zero = refl
result_kind_by tables (Specifier.Alias n) zero = refl
result_kind_by tables (Specifier.Int place) (suc n) =
    some_stars (suc n == 0) (is_void (Specifier.Int place)) (Some Void) (object_kind tables (Specifier.Int place) (suc n)) (one_zero n)
result_kind_by tables (Specifier.Void place) (suc n) =
    some_stars (suc n == 0) (is_void (Specifier.Void place)) (Some Void) (object_kind tables (Specifier.Void place) (suc n)) (one_zero n)
result_kind_by tables (Specifier.Struct place tag) (suc n) =
    some_stars (suc n == 0) (is_void (Specifier.Struct place tag)) (Some Void) (object_kind tables (Specifier.Struct place tag) (suc n))
    (one_zero n)
result_kind_by tables (Specifier.Alias m) (suc n) =
    some_stars (suc n == 0) (is_void (Specifier.Alias m)) (Some Void) (object_kind tables (Specifier.Alias m) (suc n)) (one_zero n)

pub may_be_result_by : (s : Specifier) (n : ℕ) → may_be_result s n ≡ (if (n == 0) && is_void s then true else may_be_object s n)
may_be_result_by (Specifier.Int place) zero = refl
may_be_result_by (Specifier.Void place) zero = refl
may_be_result_by (Specifier.Struct place tag) zero = refl
may_be_result_by (Specifier.Alias n) zero = refl
may_be_result_by (Specifier.Int place) (suc n) =
    some_stars (suc n == 0) (is_void (Specifier.Int place)) true (may_be_object (Specifier.Int place) (suc n)) (one_zero n)
may_be_result_by (Specifier.Void place) (suc n) =
    some_stars (suc n == 0) (is_void (Specifier.Void place)) true (may_be_object (Specifier.Void place) (suc n)) (one_zero n)
may_be_result_by (Specifier.Struct place tag) (suc n) =
    some_stars (suc n == 0) (is_void (Specifier.Struct place tag)) true (may_be_object (Specifier.Struct place tag) (suc n)) (one_zero n)
may_be_result_by (Specifier.Alias m) (suc n) =
    some_stars (suc n == 0) (is_void (Specifier.Alias m)) true (may_be_object (Specifier.Alias m) (suc n)) (one_zero n)

pub ruleset stars = (object_kind_by, may_be_object_by, result_kind_by, may_be_result_by)
