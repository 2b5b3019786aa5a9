-- The facts that fields left over, and the wanted facts.
use Rattle.std.specs.Prelude.{◌≡◌, ◌≢◌, ℕ, ◌+◌, ℤ, Bool, true, false, not, ◌&&◌, List, [], ◌∷◌}
use Rattle.std.proofs.Common.{refl, sym, ap, ◌∙◌}
use Rattle.std.proofs.lemmas.Bool.{and_parts}
use Rattle.shape_data.specs.declared.program.StructDef.{StructDef}
use Rattle.shape_data.specs.declared.symbolic.Exp.{Exp}
use Rattle.shape_data.specs.declared.symbolic.Fact.{Fact}
use Rattle.shape_data.specs.declared.symbolic.Fact.TheVariants.{Eq, Ne}
use Rattle.shape_data.specs.Meaning.{value, IsTrueFact, AreTrueFacts}
use Rattle.sym_parts.specs.Laws.Expressions.{same_exp}
use Rattle.sym_parts.proofs.LawsLemmas.ExpressionLemmas.{same_exp-equal}
use Rattle.sym_pure.specs.Equations.{read_through}
use Rattle.sym_pure.specs.Sources.{differs}
use Rattle.sym_matching.specs.declared.matching.Matching.{Matching}
use Rattle.sym_matching.specs.declared.matching.Mode.{Mode}
use Rattle.sym_matching.specs.declared.matching.Mode.TheVariants.{Subtract, Abduce}
use Rattle.sym_matching.specs.declared.matching.Owed.{Owed}
use Rattle.sym_matching.specs.declared.matching.Turned.{Turned}
use Rattle.sym_matching.specs.declared.matching.Turned.TheVariants.{On, Stuck}
use Rattle.sym_matching.specs.Laws.{Keeps}
use Rattle.sym_matching.specs.Reading.{read, is_unbound, is_logical, through}
use Rattle.sym_matching.specs.Steps.{Rules, whole, bind, and_then, unless_contradiction, with_missing_fact}
use Rattle.sym_matching.specs.WantedFacts.{miss_equation, want_same, want_equal, miss_disequality, want_apart, want_fact, want_facts}
use Rattle.sym_matching.specs.WantedFacts.{want_owed, want_all_owed}
use Rattle.sym_matching.proofs.ReadingLaws.{read_later, value-read_through}
use Rattle.sym_matching.proofs.SettleLaws.{Settles, Settles-bind, Settles-like, Settles-miss, Settles-none, Settles-then, differs-apart}
use Rattle.sym_matching.proofs.SettleLaws.{unless-on}
use Rattle.sym_matching.proofs.StandLaws.{AreTrueOwed}

module _ (structs : List StructDef) (rules : Rules) where
  -- ---- e = f

  miss_equation-settles : (number : ℕ) (left right : Exp) (m n : Matching) (mode : Mode) → rules.mode ≡ mode →
      miss_equation rules number left right m mode ≡ On n → Settles structs rules m n (λ s later. value s left ≡ value s right)
  miss_equation-settles number left right m n Subtract mode h = cc
  miss_equation-settles number left right m n Abduce mode h =
      by_test (is_logical left && is_logical right && not (differs (whole rules m) left right)) refl
    where
      by_test : (b : Bool) → (is_logical left && is_logical right && not (differs (whole rules m) left right)) ≡ b →
          Settles structs rules m n (λ s later. value s left ≡ value s right)
      by_test true f =
          let logical =
          and_parts (is_logical left) (is_logical right)
          (and_parts (is_logical left && is_logical right) (not (differs (whole rules m) left right)) f).0 in
          let on : unless_contradiction rules number (with_missing_fact m (Eq left right)) ≡ On n = rw f at h in
          let is_n : n ≡ with_missing_fact m (Eq left right) = unless-on rules number (with_missing_fact m (Eq left right)) n on in
          rw is_n (Settles-miss structs rules m (Eq left right) mode logical)
      by_test false f = let bad : Stuck number ≡ On n = rw f at h in cc

  want_same-settles : (number : ℕ) (left right : Exp) (m n : Matching) → want_same rules number left right m ≡ On n →
      Settles structs rules m n (λ s later. value s left ≡ value s right)
  want_same-settles number left right m n h = by_test (same_exp left right) refl
    where
      by_test : (b : Bool) → same_exp left right ≡ b → Settles structs rules m n (λ s later. value s left ≡ value s right)
      by_test true f =
          let is_on : On m ≡ On n = rw f at h in
          let is_n : n ≡ m = cc in
          rw is_n (Settles-none structs rules m (λ s later. value s left ≡ value s right)
          (λ last s all left' gone stands later keeps. ap (value s) (same_exp-equal left right f)))
      by_test false f = let missing : miss_equation rules number left right m rules.mode
          ≡ On n = rw f at h in miss_equation-settles number left right m n rules.mode refl missing

  -- a determined expression, read now, has the value that it has later
  pub now_later : (m n : Matching) (s : ℕ → ℤ) (later : List (ℕ × Exp)) (e : Exp) → is_unbound rules.flexible m.binding e ≡ false →
      Keeps rules.flexible m.binding n.binding → Keeps rules.flexible n.binding later → AreTrueFacts s rules.facts →
      value s (read rules.facts m.binding e) ≡ value (through later s) e
  now_later m n s later e known first second facts =
      read_later rules.facts rules.flexible m.binding later s e known
      (λ f g. ((second f (first f g).0).0, (second f (first f g).0).1 ∙ (first f g).1)) facts

  want_owed-settles : (one : Owed) (m n : Matching) → want_owed rules one m ≡ On n →
      Settles structs rules m n (λ s later. value (through later s) one.want ≡ value s one.have)
  want_owed-settles one m n h = by_unbound (is_unbound rules.flexible m.binding one.want) refl
    where
      by_unbound : (b : Bool) → is_unbound rules.flexible m.binding one.want ≡ b →
          Settles structs rules m n (λ s later. value (through later s) one.want ≡ value s one.have)
      by_unbound true e =
          let is_on : On (bind m one.want (read_through rules.facts one.have)) ≡ On n = rw e at h in
          let is_n : n ≡ bind m one.want (read_through rules.facts one.have) = cc in
          rw is_n (Settles-like structs rules m (bind m one.want (read_through rules.facts one.have))
          (λ s later. value (through later s) one.want ≡ value s (read_through rules.facts one.have))
          (λ s later. value (through later s) one.want ≡ value s one.have)
          (λ s later facts keeps same. same ∙ value-read_through rules.facts s one.have facts)
          (Settles-bind structs rules m one.want (read_through rules.facts one.have) e))
      by_unbound false e =
          let is_on : want_same rules one.number (read rules.facts m.binding one.want) (read_through rules.facts one.have) m ≡ On n =
          rw e at h in
          let step = want_same-settles one.number (read rules.facts m.binding one.want) (read_through rules.facts one.have) m n is_on in
          Settles-like structs rules m n
          (λ s later. value s (read rules.facts m.binding one.want) ≡ value s (read_through rules.facts one.have))
          (λ s later. value (through later s) one.want ≡ value s one.have)
          (λ s later facts keeps same. sym (now_later m n s later one.want e step.keeps keeps facts) ∙ same
          ∙ value-read_through rules.facts s one.have facts) step

  pub want_all_owed-settles : (owed : List Owed) (m n : Matching) → want_all_owed rules owed m ≡ On n →
      Settles structs rules m n (λ s later. AreTrueOwed s later owed)
  want_all_owed-settles [] m n h =
      let is_n : n ≡ m = cc in rw is_n (Settles-none structs rules m (λ s later. Unit {0}) (λ last s all left gone stands later keeps. tt))
  want_all_owed-settles (one ∷ owed) m n h = by_turn (λ k. want_all_owed-settles owed k n) (want_owed rules one m) refl h
    where
      by_turn : ((k : Matching) → want_all_owed rules owed k ≡ On n → Settles structs rules k n (λ s later. AreTrueOwed s later owed)) →
          (r : Turned) → want_owed rules one m ≡ r → and_then (want_all_owed rules owed) r ≡ On n →
          Settles structs rules m n (λ s later. AreTrueOwed s later (one ∷ owed))
      by_turn go_on (On k) e f =
          Settles-then structs rules m k n (λ s later. value (through later s) one.want ≡ value s one.have)
          (λ s later. AreTrueOwed s later owed) (want_owed-settles one m k e) (go_on k f)
      by_turn go_on (Stuck number) e f = cc

  -- ---- the wanted facts

  want_equal-settles : (number : ℕ) (e f : Exp) (m n : Matching) (a b : Bool) → is_unbound rules.flexible m.binding e ≡ a →
      is_unbound rules.flexible m.binding f ≡ b → want_equal rules number e f m a b ≡ On n →
      Settles structs rules m n (λ s later. value (through later s) e ≡ value (through later s) f)
  want_equal-settles number e f m n true false g h is =
      let is_n : n ≡ bind m e (read rules.facts m.binding f) = cc in
      let step = Settles-bind structs rules m e (read rules.facts m.binding f) g in
      rw is_n (Settles-like structs rules m (bind m e (read rules.facts m.binding f))
      (λ s later. value (through later s) e ≡ value s (read rules.facts m.binding f))
      (λ s later. value (through later s) e ≡ value (through later s) f)
      (λ s later facts keeps same. same ∙ now_later m (bind m e (read rules.facts m.binding f)) s later f h step.keeps keeps facts) step)
  want_equal-settles number e f m n false true g h is =
      let is_n : n ≡ bind m f (read rules.facts m.binding e) = cc in
      let step = Settles-bind structs rules m f (read rules.facts m.binding e) h in
      rw is_n (Settles-like structs rules m (bind m f (read rules.facts m.binding e))
      (λ s later. value (through later s) f ≡ value s (read rules.facts m.binding e))
      (λ s later. value (through later s) e ≡ value (through later s) f)
      (λ s later facts keeps same. sym
      (same ∙ now_later m (bind m f (read rules.facts m.binding e)) s later e g step.keeps keeps facts)) step)
  want_equal-settles number e f m n false false g h is =
      let step = want_same-settles number (read rules.facts m.binding e) (read rules.facts m.binding f) m n is in
      Settles-like structs rules m n (λ s later. value s (read rules.facts m.binding e) ≡ value s (read rules.facts m.binding f))
      (λ s later. value (through later s) e ≡ value (through later s) f)
      (λ s later facts keeps same. sym (now_later m n s later e g step.keeps keeps facts) ∙ same
      ∙ now_later m n s later f h step.keeps keeps facts) step
  want_equal-settles number e f m n true true g h is = by_test (same_exp e f) refl
    where
      by_test : (d : Bool) → same_exp e f ≡ d → Settles structs rules m n (λ s later. value (through later s) e ≡ value (through later s) f)
      by_test true same =
          let is_on : On m ≡ On n = rw same at is in
          let is_n : n ≡ m = cc in
          rw is_n (Settles-none structs rules m (λ s later. value (through later s) e ≡ value (through later s) f)
          (λ last s all left gone stands later keeps. ap (value (through later s)) (same_exp-equal e f same)))
      by_test false same = let bad : Stuck number ≡ On n = rw same at is in cc

  -- ---- e != f

  miss_disequality-settles : (number : ℕ) (left right : Exp) (m n : Matching) (mode : Mode) → rules.mode ≡ mode →
      miss_disequality rules number left right m mode ≡ On n → Settles structs rules m n (λ s later. value s left ≢ value s right)
  miss_disequality-settles number left right m n Subtract mode h = cc
  miss_disequality-settles number left right m n Abduce mode h =
      by_test (is_logical left && is_logical right && not (same_exp left right)) refl
    where
      by_test : (b : Bool) → (is_logical left && is_logical right && not (same_exp left right)) ≡ b →
          Settles structs rules m n (λ s later. value s left ≢ value s right)
      by_test true f =
          let logical =
          and_parts (is_logical left) (is_logical right)
          (and_parts (is_logical left && is_logical right) (not (same_exp left right)) f).0 in
          let on : unless_contradiction rules number (with_missing_fact m (Ne left right)) ≡ On n = rw f at h in
          let is_n : n ≡ with_missing_fact m (Ne left right) = unless-on rules number (with_missing_fact m (Ne left right)) n on in
          rw is_n (Settles-miss structs rules m (Ne left right) mode logical)
      by_test false f = let bad : Stuck number ≡ On n = rw f at h in cc

  want_apart-settles : (number : ℕ) (left right : Exp) (m n : Matching) → want_apart rules number left right m ≡ On n →
      Settles structs rules m n (λ s later. value s left ≢ value s right)
  want_apart-settles number left right m n h = by_test (differs (whole rules m) left right) refl
    where
      by_test : (b : Bool) → differs (whole rules m) left right ≡ b → Settles structs rules m n (λ s later. value s left ≢ value s right)
      by_test true f =
          let is_on : On m ≡ On n = rw f at h in
          let is_n : n ≡ m = cc in
          rw is_n (Settles-none structs rules m (λ s later. value s left ≢ value s right)
          (λ last s all left' gone stands later keeps. differs-apart structs rules m left right f last s all left' gone stands))
      by_test false f = let missing : miss_disequality rules number left right m rules.mode
          ≡ On n = rw f at h in miss_disequality-settles number left right m n rules.mode refl missing

  want_fact-settles : (number : ℕ) (fact : Fact) (m n : Matching) → want_fact rules number fact m ≡ On n →
      Settles structs rules m n (λ s later. IsTrueFact (through later s) fact)
  want_fact-settles number (Eq e f) m n h =
      want_equal-settles number e f m n (is_unbound rules.flexible m.binding e) (is_unbound rules.flexible m.binding f) refl refl h
  want_fact-settles number (Ne e f) m n h =
      by_tests (is_unbound rules.flexible m.binding e) refl (is_unbound rules.flexible m.binding f) refl
    where
      by_tests : (a : Bool) → is_unbound rules.flexible m.binding e ≡ a → (b : Bool) → is_unbound rules.flexible m.binding f ≡ b →
          Settles structs rules m n (λ s later. IsTrueFact (through later s) (Ne e f))
      by_tests true g b i = let bad : Stuck number ≡ On n = rw g at h in cc
      by_tests false g true i = let bad : Stuck number ≡ On n = rw (g, i) at h in cc
      by_tests false g false i =
          let is_on : want_apart rules number (read rules.facts m.binding e) (read rules.facts m.binding f) m ≡ On n = rw (g, i) at h in
          let step = want_apart-settles number (read rules.facts m.binding e) (read rules.facts m.binding f) m n is_on in
          Settles-like structs rules m n (λ s later. value s (read rules.facts m.binding e) ≢ value s (read rules.facts m.binding f))
          (λ s later. value (through later s) e ≢ value (through later s) f)
          (λ s later facts keeps apart same. apart
          (now_later m n s later e g step.keeps keeps facts ∙ same ∙ sym (now_later m n s later f i step.keeps keeps facts))) step

  pub want_facts-settles : (number : ℕ) (facts : List Fact) (m n : Matching) → want_facts rules number facts m ≡ On n →
      Settles structs rules m n (λ s later. AreTrueFacts (through later s) facts)
  want_facts-settles number [] m n h =
      let is_n : n ≡ m = cc in rw is_n (Settles-none structs rules m (λ s later. Unit {0}) (λ last s all left gone stands later keeps. tt))
  want_facts-settles number (fact ∷ facts) m n h =
      by_turn (λ k. want_facts-settles (number + 1) facts k n) (want_fact rules number fact m) refl h
    where
      by_turn : ((k : Matching) → want_facts rules (number + 1) facts k ≡ On n →
          Settles structs rules k n (λ s later. AreTrueFacts (through later s) facts)) → (r : Turned) → want_fact rules number fact m ≡ r →
          and_then (want_facts rules (number + 1) facts) r ≡ On n →
          Settles structs rules m n (λ s later. AreTrueFacts (through later s) (fact ∷ facts))
      by_turn go_on (On k) e f =
          Settles-then structs rules m k n (λ s later. IsTrueFact (through later s) fact) (λ s later. AreTrueFacts (through later s) facts)
          (want_fact-settles number fact m k e) (go_on k f)
      by_turn go_on (Stuck other) e f = cc
