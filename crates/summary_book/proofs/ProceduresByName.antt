-- Procedures by their places and names.
use Rattle.std.proofs.Common.{◌≡◌, ℕ, ◌+◌, ◌<◌, Bool, true, false, ◌||◌, nat_eq, List, [], ◌∷◌, ◌++◌, map, length, take, slice_get, get_or}
use Rattle.std.proofs.Common.{Some, Option, refl, sym, ap, ◌∙◌, All, option_map}
use Rattle.std.specs.List.{filter_map, list_any}
use Rattle.std.specs.Cmp.Lexicographic.{pointwise}
use Rattle.std.proofs.lemmas.List.{length-map, map_push, take_more}
use Rattle.std.proofs.lemmas.Option.{slice_get-get_or}
use Rattle.shape_data.specs.Exact.{number_same, row_same}
use Rattle.shape_data.specs.declared.program.Flow.{Flow}
use Rattle.shape_data.specs.declared.program.Proc.{Proc}
use Rattle.shape_data.specs.declared.program.Program.{Program}
use Rattle.component_keys.specs.Keys.{flows_of, names_of}
use Rattle.component_keys.proofs.Basics.{at_map, some_same}
use Rattle.component_keys.proofs.Reach.{any_passes}
use Rattle.composed_keys.proofs.Compared.{length_there, there_at, within_flows}
use Rattle.composed_keys.proofs.Noted.{more_at}
use Rattle.summary_book.specs.Aims.{has_name}

-- both lists tell the same at a place
pub at_both : {X Y : Type 0} (f : X → Option Y) (xs : List X) (ys : List Y) (i : ℕ) (x : X) (y : Y) →
    map f xs ≡ map (λ (z : Y). Some z) ys → slice_get xs i ≡ Some x → slice_get ys i ≡ Some y → f x ≡ Some y
at_both {Y = Y} f xs ys i x y e at there =
    some_same
    (sym (ap (option_map f) at) ∙ sym (at_map f xs i) ∙ ap (λ (l : List (Option Y)). slice_get l i) e ∙ at_map (λ (z : Y). Some z) ys i
    ∙ ap (option_map (λ (z : Y). Some z)) there)

any_push : {X : Type 0} (p : X → Bool) (xs : List X) (x : X) → list_any p (xs ++ x ∷ []) ≡ (list_any p xs || p x)
any_push p [] x = or_false (p x)
  where
    or_false : (b : Bool) → (b || false) ≡ b
    or_false true = refl
    or_false false = refl
any_push p (first ∷ xs) x = ap (λ b. p first || b) (any_push p xs x) ∙ or_assoc (p first) (list_any p xs) (p x)
  where
    or_assoc : (a b c : Bool) → (a || (b || c)) ≡ ((a || b) || c)
    or_assoc true b c = refl
    or_assoc false b c = refl

module _ (program : Program) (members : List ℕ) (within : All (λ number. number < length program.procs) members) (procs : List Proc)
    (procs_are : procs ≡ program.procs) where
  -- the procedure at a place
  abbrev pub flow_in : ℕ → Proc → Flow
  flow_in i default = (get_or procs (get_or members i 0) default).flow

  pub flow_at : (i : ℕ) (default : Proc) → i < length members → slice_get (flows_of program) (get_or members i 0) ≡ Some (flow_in i default)
  flow_at i default lt =
      at_map (λ (proc : Proc). proc.flow) program.procs (get_or members i 0) ∙
      ap (option_map (λ (proc : Proc). proc.flow)) (slice_get-get_or program.procs (get_or members i 0) default (within i 0 lt)) ∙
      ap (λ (all : List Proc). Some (get_or all (get_or members i 0) default).flow) (sym procs_are)

  -- one more
  pub flows_one_more : (i : ℕ) (default : Proc) → i < length members →
      filter_map (slice_get (flows_of program)) (take (i + 1) members)
      ≡ filter_map (slice_get (flows_of program)) (take i members) ++ flow_in i default ∷ []
  flows_one_more i default lt = more_at (flows_of program) members i (flow_in i default) lt (flow_at i default lt)

  pub flow_there : (i : ℕ) (default : Proc) → i < length members →
      slice_get (filter_map (slice_get (flows_of program)) members) i ≡ Some (flow_in i default)
  flow_there i default lt =
      there_at (flows_of program) members (within_flows program members within) i (get_or members i 0) (slice_get-get_or members i 0 lt)
      ∙ flow_at i default lt

  -- ---- one has the name

  pub named_more : (name : List ℕ) (i : ℕ) (default : Proc) → i < length members →
      has_name name (filter_map (slice_get (flows_of program)) (take i members)) ≡ false → ((flow_in i default).name ≡ name → ⊥) →
      has_name name (filter_map (slice_get (flows_of program)) (take (i + 1) members)) ≡ false
  named_more name i default lt before other =
      ap (has_name name) (flows_one_more i default lt) ∙
      any_push (λ (flow : Flow). pointwise nat_eq flow.name name) (filter_map (slice_get (flows_of program)) (take i members))
      (flow_in i default) ∙
      ap (λ b. b || pointwise nat_eq (flow_in i default).name name) before ∙ by_test (pointwise nat_eq (flow_in i default).name name) refl
    where
      by_test : (b : Bool) → pointwise nat_eq (flow_in i default).name name ≡ b → b ≡ false
      by_test false e = refl
      by_test true e = absurd (other ((row_same number_same (flow_in i default).name name).0 e))

  pub named_there : (name : List ℕ) (i : ℕ) (default : Proc) → i < length members → (flow_in i default).name ≡ name →
      has_name name (filter_map (slice_get (flows_of program)) members) ≡ true
  named_there name i default lt same =
      any_passes (λ (flow : Flow). pointwise nat_eq flow.name name) (filter_map (slice_get (flows_of program)) members) i
      (flow_in i default) (flow_there i default lt)
      ((row_same number_same (flow_in i default).name name).1 same)

  -- ---- the names in turn

  pub names_length : (flows : List Flow) → names_of (filter_map (slice_get (flows_of program)) members) ≡ names_of flows →
      length members ≡ length flows
  names_length flows e =
      sym (length_there (flows_of program) members (within_flows program members within))
      ∙ sym (length-map (filter_map (slice_get (flows_of program)) members) (λ (flow : Flow). flow.name)) ∙ ap length e ∙
      length-map flows (λ (flow : Flow). flow.name)

  pub names_more : (flows : List Flow) (i : ℕ) (default : Proc) (other : Flow) → i < length members → i < length flows →
      (flow_in i default).name ≡ (get_or flows i other).name →
      names_of (filter_map (slice_get (flows_of program)) (take i members)) ≡ names_of (take i flows) →
      names_of (filter_map (slice_get (flows_of program)) (take (i + 1) members)) ≡ names_of (take (i + 1) flows)
  names_more flows i default other lt less same before =
      ap names_of (flows_one_more i default lt)
      ∙ map_push (λ (flow : Flow). flow.name) (filter_map (slice_get (flows_of program)) (take i members)) (flow_in i default) ∙
      ap (λ l. l ++ (flow_in i default).name ∷ []) before ∙ ap (λ n. names_of (take i flows) ++ n ∷ []) same ∙
      sym (map_push (λ (flow : Flow). flow.name) (take i flows) (get_or flows i other)) ∙ ap names_of (sym (take_more flows i other less))

  pub names_same_at : (flows : List Flow) (i : ℕ) (default : Proc) (other : Flow) → i < length members → i < length flows →
      names_of (filter_map (slice_get (flows_of program)) members) ≡ names_of flows → (flow_in i default).name ≡ (get_or flows i other).name
  names_same_at flows i default other lt less e =
      some_same
      (sym (ap (option_map (λ (flow : Flow). flow.name)) (flow_there i default lt))
      ∙ sym (at_map (λ (flow : Flow). flow.name) (filter_map (slice_get (flows_of program)) members) i) ∙
      ap (λ (l : List (List ℕ)). slice_get l i) e ∙ at_map (λ (flow : Flow). flow.name) flows i
      ∙ ap (option_map (λ (flow : Flow). flow.name)) (slice_get-get_or flows i other less))
