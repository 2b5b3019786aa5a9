-- What is known of attempts that are well formed, one for each procedure; tables; whether specs are the same.
use Rattle.std.specs.Prelude.{◌≡◌, ℕ, ◌+◌, ◌<◌, ◌≤◌, Bool, false, Decides, List, [], ◌∷◌, ◌++◌, length, slice_index_or, All}
use Rattle.std.specs.Cmp.Lexicographic.{pointwise}
use Rattle.std.proofs.Common.{refl, sym, ap, ◌∙◌, subst, arith, drop}
use Rattle.std.proofs.lemmas.Bool.Decides.{Decides-and, Decides-like}
use Rattle.std.proofs.lemmas.Slice.Eq.{slice_eq-Decides}
use Rattle.shape_data.specs.declared.answer.Callee.{Callee}
use Rattle.shape_data.specs.declared.answer.Key.{Key}
use Rattle.shape_data.specs.declared.program.Flow.{Flow}
use Rattle.shape_data.specs.declared.program.StructDef.{StructDef}
use Rattle.shape_data.specs.declared.symbolic.Cert.{Cert}
use Rattle.shape_data.specs.declared.symbolic.Spec.{Spec}
use Rattle.exec_laws.specs.declared.parts.Table.{Table}
use Rattle.solve_laws.specs.Certificates.Coming.{Task}
use Rattle.solve_laws.specs.Certificates.Sameness.{same_heap, same_post}
use Rattle.solve_laws.proofs.CertificatesLemmas.SamenessLaws.{same_heap-Decides, same_post-Decides}
use Rattle.solve_laws.specs.declared.parts.Attempt.{Attempt}
use Rattle.solve_laws.specs.declared.parts.Trial.{Trial}
use Rattle.solve_laws.specs.Solving.{attempt_again, attempts_again}
use Rattle.solve_laws.specs.Standing.{AllStanding, AreFormed, IsFormed, IsTried}
use Rattle.solve_laws.specs.Tables.{same_spec, same_specs, table_with}
use Rattle.solve_laws.proofs.MovingLaws.{own-none}
use Rattle.solve_laws.proofs.TrialLaws.{zip-at, zip-length, zip-others, zip-weaker}
use Rattle.comp_solve.proofs.Turns.{again-turn}

-- ---- attempts

module _ (key : Key) (attempts : List Attempt) (formed : AreFormed key attempts) where
  pub formed-length : length attempts ≡ length key.procs
  formed-length = zip-length (IsTried (IsFormed key.structs)) key.procs attempts formed

  pub formed-few : All (λ (one : Attempt). length one.trials ≤ 8) attempts
  formed-few =
      zip-others (λ (one : Attempt). length one.trials ≤ 8) key.procs attempts
      (zip-weaker (IsTried (IsFormed key.structs)) (λ flow (one : Attempt). length one.trials ≤ 8)
      (λ flow one is. is.few) key.procs attempts formed)

  module _ (flows : List Flow) (same : flows ≡ key.procs) (place : ℕ) (within : place < length flows) where
    pub formed-within : place < length attempts
    formed-within =
        let all = formed-length in
        let alike : length flows ≡ length key.procs = ap length same in
        omega (arith, within, all, alike)

    pub formed-here : (structs : List StructDef) (flow : Flow) (one : Attempt) → structs ≡ key.structs →
        flow ≡ slice_index_or flows place flow → one ≡ slice_index_or attempts place one →
        AllStanding (IsFormed structs flow) one.trials
    formed-here structs flow one same_structs is its =
        let alike : length flows ≡ length key.procs = ap length same in
        let inside : place < length key.procs = omega (arith, within, alike) in
        let flow_is : flow ≡ slice_index_or key.procs place flow = is ∙ ap (λ all. slice_index_or all place flow) same in
        let here : AllStanding (IsFormed key.structs (slice_index_or key.procs place flow)) (slice_index_or attempts place one).trials =
        (zip-at (IsTried (IsFormed key.structs)) key.procs attempts formed place flow one inside).stand in
        subst (λ all. AllStanding (IsFormed all flow) one.trials) (sym same_structs)
        (subst (λ it. AllStanding (IsFormed key.structs it) one.trials) (sym flow_is)
        (subst (λ it. AllStanding (IsFormed key.structs (slice_index_or key.procs place flow)) it.trials) (sym its) here))

-- what stands of one more procedure is tested again
pub again-step : (test : Task → Spec → Cert → Trial) (key : Key) (table : Table) (attempts : List Attempt) (flows : List Flow)
    (structs : List StructDef) (place : ℕ) (flow : Flow) (one made : Attempt)
    (before now : List Attempt) → flows ≡ key.procs → structs ≡ key.structs → place < length flows → place < length attempts →
    flow ≡ slice_index_or flows place flow →
    one ≡ slice_index_or attempts place one →
    made ≡ attempt_again test (record { flow = flow; structs = structs; table = table; recursive = key.recursive }) one →
    now ≡ before ++ made ∷ [] →
    before ++ attempts_again test key table (drop place key.procs) (drop place attempts)
    ≡ attempts_again test key table key.procs attempts →
    now ++ attempts_again test key table (drop (place + 1) key.procs) (drop (place + 1) attempts)
    ≡ attempts_again test key table key.procs attempts
again-step test key table attempts flows structs place flow one made before now same same_structs within inside is its made_is now_is
    known =
    let alike : length flows ≡ length key.procs = ap length same in
    let below : place < length key.procs = omega (arith, within, alike) in
    ap (λ all. all ++ attempts_again test key table (drop (place + 1) key.procs) (drop (place + 1) attempts)) now_is
    ∙ again-turn test key table key.procs attempts place flow one made before
    (attempts_again test key table key.procs attempts) below inside
    (is ∙ ap (λ all. slice_index_or all place flow) same) its
    (made_is ∙ ap
    (λ all. attempt_again test (record { flow = flow; structs = all; table = table; recursive = key.recursive }) one) same_structs) known

-- ---- tables

pub table-alone : (key : Key) (own outer : List Callee) → own ≡ [] → outer ≡ key.callees →
    record { own = own; outer = outer; cut = false } ≡ table_with key [] false
table-alone key own outer none same = λ i. record { own = (none ∙ sym (own-none key.procs)) i; outer = same i; cut = false }

-- ---- sameness

lists : {A : Type 0} {E : A → A → Bool} → ((x y : A) → Decides (E x y) (x ≡ y)) → (xs ys : List A) → Decides (pointwise E xs ys) (xs ≡ ys)
lists decides xs ys = slice_eq-Decides decides xs ys _ refl

same_spec-Decides : (a b : Spec) → Decides (same_spec a b) (a ≡ b)
same_spec-Decides a b =
    Decides-like (same_spec a b) (λ both. λ i. record { pre = both.0 i; posts = both.1 i })
    (λ same. (ap (λ (s : Spec). s.pre) same, ap (λ (s : Spec). s.posts) same))
    (Decides-and (same_heap a.pre b.pre) (pointwise same_post a.posts b.posts) (same_heap-Decides a.pre b.pre)
    (lists same_post-Decides a.posts b.posts))

pub same_specs-Decides : (a b : List (List Spec)) → Decides (same_specs a b) (a ≡ b)
same_specs-Decides a b = lists (lists same_spec-Decides) a b
