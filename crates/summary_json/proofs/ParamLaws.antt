-- The test of parameters that computes says whether they are well formed.
use Rattle.std.specs.Prelude.{◌≡◌, ◌≢◌, ℕ, suc, nat_le, nat_lt, Bool, true, false, ◌&&◌, ◌||◌, not, List, [], ◌∷◌, length}
use Rattle.std.specs.Prelude.{slice_index, All, AllPairs}
use Rattle.std.specs.List.{list_all, list_any}
use Rattle.std.specs.Str.{bytes_eq}
use Rattle.std.specs.declared.option.Option.TheVariants.{None, Some}
use Rattle.std.proofs.Common.{refl, sym, ◌∙◌, subst, arith}
use Rattle.std.proofs.lemmas.Bool.{and_parts, le-leb, leb-true, lt-ltb, ltb-true}
use Rattle.std.proofs.lemmas.List.Elements.{All-cons, All-head, All-nil, All-tail}
use Rattle.std.proofs.lemmas.List.Kept.{AllPairs-cons}
use Rattle.std.proofs.lemmas.Slice.Eq.{bytes_eq-Decides}
use Rattle.serde_json.specs.Data.{Data, string}
use Rattle.shape_data.specs.Names.{is_name_byte, is_name_start, IsCName}
use Rattle.shape_data.specs.WellFormed.{AreParams}
use Rattle.flow_json.specs.Forms.{list_data, read_list, read_name}
use Rattle.flow_json.specs.Laws.{IsInverse, IsName}
use Rattle.flow_json.proofs.FlowLaws.{names_inverse}
use Rattle.flow_json.proofs.InverseLemmas.{go_on_is, go_on_some, some_is, test_true}
use Rattle.summary_json.specs.Params.{all_differ, are_params, if_params, is_c_name, read_params}

c_name_is : (name : List ℕ) → is_c_name name ≡ true → IsCName name
c_name_is name is =
    let outer = and_parts (nat_lt 0 (length name) && is_name_start (slice_index name 0)) (list_all is_name_byte name) is in
    let inner = and_parts (nat_lt 0 (length name)) (is_name_start (slice_index name 0)) outer.0 in
    record { some = ltb-true 0 (length name) inner.0; first = inner.1; each = outer.1 }

is_c_name_of : (name : List ℕ) → IsCName name → is_c_name name ≡ true
is_c_name_of name is = rw (lt-ltb 0 (length name) is.some, is.first, is.each) refl

c_names_are : (names : List (List ℕ)) → list_all is_c_name names ≡ true → All IsCName names
c_names_are [] is = All-nil IsCName
c_names_are (name ∷ names) is =
    let both = and_parts (is_c_name name) (list_all is_c_name names) is in
    All-cons IsCName name names (c_name_is name both.0) (c_names_are names both.1)

are_c_names : (names : List (List ℕ)) → All IsCName names → list_all is_c_name names ≡ true
are_c_names [] all = refl
are_c_names (name ∷ names) all = rw (
  is_c_name_of name (All-head IsCName name names all),
  are_c_names names (All-tail IsCName name names all),
) refl

-- no name of these is that one
none_same : (name : List ℕ) (names : List (List ℕ)) → list_any (bytes_eq name) names ≡ false → All (λ other. name ≢ other) names
none_same name [] is = All-nil (λ other. name ≢ other)
none_same name (one ∷ names) is = by_test (bytes_eq name one) refl is (none_same name names)
  where
    by_test : (b : Bool) → bytes_eq name one ≡ b → (b || list_any (bytes_eq name) names) ≡ false →
        (list_any (bytes_eq name) names ≡ false → All (λ other. name ≢ other) names) → All (λ other. name ≢ other) (one ∷ names)
    by_test true same is further = cc
    by_test false differ is further =
        All-cons (λ other. name ≢ other) one names (λ same. let never : true ≡ false =
        sym ((bytes_eq-Decides name one).1 same) ∙ differ in cc) (further is)

same_none : (name : List ℕ) (names : List (List ℕ)) → All (λ other. name ≢ other) names → list_any (bytes_eq name) names ≡ false
same_none name [] all = refl
same_none name (one ∷ names) all = by_test (bytes_eq name one) refl (same_none name names (All-tail (λ other. name ≢ other) one names all))
  where
    by_test : (b : Bool) → bytes_eq name one ≡ b → list_any (bytes_eq name) names ≡ false → (b || list_any (bytes_eq name) names) ≡ false
    by_test true same further = absurd (All-head (λ other. name ≢ other) one names all ((bytes_eq-Decides name one).0 same))
    by_test false differ further = further

differ_is : (names : List (List ℕ)) → all_differ names ≡ true → AllPairs (λ one other. one ≢ other) names
differ_is [] is = λ i j d below within. absurd (omega arith)
differ_is (name ∷ names) is =
    let both = and_parts (not (list_any (bytes_eq name) names)) (all_differ names) is in
    AllPairs-cons (λ one other. one ≢ other) name names (none_same name names (not_true (list_any (bytes_eq name) names) both.0))
    (differ_is names both.1)
  where
    not_true : (b : Bool) → not b ≡ true → b ≡ false
    not_true true is = cc
    not_true false is = refl

is_differ : (names : List (List ℕ)) → AllPairs (λ one other. one ≢ other) names → all_differ names ≡ true
is_differ [] all = refl
is_differ (name ∷ names) all =
    rw (
      same_none name names (λ k d within. all 0 (suc k) d (omega arith) (omega arith)),
      is_differ names (λ i j d below within. all (suc i) (suc j) d (omega arith) (omega arith)),
    ) refl

pub params_are : (params : List (List ℕ)) → are_params params ≡ true → AreParams params
params_are params is =
    let outer = and_parts (nat_le (length params) 32768 && list_all is_c_name params) (all_differ params) is in
    let inner = and_parts (nat_le (length params) 32768) (list_all is_c_name params) outer.0 in
    record { few = leb-true (length params) 32768 inner.0; names = c_names_are params inner.1; different = differ_is params outer.1 }

pub are_the_params : (params : List (List ℕ)) → AreParams params → are_params params ≡ true
are_the_params params are = rw (le-leb (length params) 32768 are.few, are_c_names params are.names, is_differ params are.different) refl

-- what the code knows of its test
pub are_good_params : (params : List (List ℕ)) → AreParams params → if_params params ≡ Some params
are_good_params params are = rw (are_the_params params are) refl

pub are_no_params : (params : List (List ℕ)) → (AreParams params → ⊥) → if_params params ≡ None
are_no_params params never = by_test (are_params params) refl
  where
    by_test : (b : Bool) → are_params params ≡ b → if_params params ≡ None
    by_test true is = absurd (never (params_are params is))
    by_test false is = rw is refl

abbrev pub ParamsAreRead : List (List ℕ) → Type 0
ParamsAreRead params = All IsName params × AreParams params

pub params_inverse : IsInverse ParamsAreRead (list_data string) read_params
params_inverse = record { back = back; only = only }
  where
    back : (params : List (List ℕ)) → ParamsAreRead params → read_params (list_data string params) ≡ Some params
    back params fits = go_on_is _ _ params _ (names_inverse.back params fits.0) (are_good_params params fits.1)

    only : (d : Data) (params : List (List ℕ)) → read_params d ≡ Some params → (list_data string params ≡ d) × ParamsAreRead params
    only d params is =
        let names = go_on_some (read_list read_name d) if_params params is in
        let tested = test_true (are_params names.0) (Some names.0) params names.2 in
        let one = names_inverse.only d names.0 names.1 in
        subst (λ all. (list_data string all ≡ d) × ParamsAreRead all) (some_is names.0 params tested.1)
        (one.0, (one.1, params_are names.0 tested.0))
