-- Readers that go by the class of the first word.
use Rattle.std.proofs.Common.{◌≡◌, ℕ, Bool, true, false, List, refl, sym, ap, ◌∙◌}
use Rattle.std.specs.Prelude.{Ok}
use Rattle.std.proofs.lemmas.Bool.{eqb-true}
use Rattle.c_grammar.specs.declared.tokens.fault.ReadFault.{ReadFault}
use Rattle.c_grammar.specs.declared.class.Class.{Class}
use Rattle.c_grammar.specs.declared.class.Class.TheVariants as class
use Rattle.c_grammar.specs.Trees.{Name, Expr, Stmt}
use Rattle.c_grammar.specs.Words.{Word}
use Rattle.c_grammar.specs.Readers.{Got, ◌>>=◌, wrong, class_at, behind, name_here, is_class, read_name, read_below, closed_by, assign_by}
use Rattle.c_grammar.specs.Readers.{read_target, read_named, other_by, simple_by, read_simple, Does, clause_by, clause_named, read_typed}
use Rattle.c_grammar.specs.Readers.{read_clause, begins_declarator, flat_by, stmt_of, take}
use Rattle.c_grammar.proofs.Numbers.{same_class}
use Rattle.c_parse.specs.Clauses.{is_type, read_unnamed, read_plain}
use Rattle.c_parse_exprs.specs.Reads.{Halts, wrong_at}
use Rattle.c_parse_exprs.proofs.Steps.{halts_at}

-- a class that was seen
pub seen_class : (kind k : Class) → is_class kind k ≡ true → kind ≡ k
seen_class kind k seen = same_class kind k (eqb-true _ _ seen)

-- a reading that is a word that cannot stand there
pub stops_wrong : {A : Type 0} (fault : ReadFault) (words : List Word) (got : Got A) → got ≡ wrong words → fault ≡ wrong_at words
    → Halts fault got
stops_wrong fault words got is place = halts_at fault got (record { deep = false; at = words }) is place

-- a test of the class of the first word
pub tested : (test : Class → Bool) (words : List Word) (k : Class) (b v : Bool) → k ≡ class_at words → b ≡ test k → b ≡ v
    → test (class_at words) ≡ v
tested test words k b v is same as_seen = ap test (sym is) ∙ sym same ∙ as_seen

-- the name that was read, and what is left
pub record IsNameRead (words : List Word) (n : Name) (left : List Word) : Type 0 where
  pub seen : is_class class.Name (class_at words) ≡ true
  pub name : name_here words ≡ n
  pub rest : behind words ≡ left

pub name_read : (words : List Word) (n : Name) (left : List Word) → read_name words ≡ Ok (n, left) → IsNameRead words n left
name_read words n left read = by_test (is_class class.Name (class_at words)) refl
  where
    by_test : (b : Bool) → is_class class.Name (class_at words) ≡ b → IsNameRead words n left
    by_test true seen =
        let e : (let r : Got Name = Ok (name_here words, behind words) in r) ≡ Ok (n, left) = rw seen at read in
        let both : (name_here words, behind words) ≡ (n, left) = cc in
        record { seen = seen; name = ap (λ (q : Name × List Word). q.0) both; rest = ap (λ (q : Name × List Word). q.1) both }
    by_test false seen = let e : wrong words ≡ Ok (n, left) = rw seen at read in absurd (cc)

no_assign : (k : Class) (n : ℕ) (target : Expr) (words : List Word) → (k ≡ class.Set → ⊥) → (k ≡ class.AddTo → ⊥)
    → (k ≡ class.SubtractFrom → ⊥)
    → (k ≡ class.MultiplyBy → ⊥) → (k ≡ class.Increment → ⊥) → (k ≡ class.Decrement → ⊥) → assign_by k n target words ≡ wrong words
no_assign class.Set n target words a b c d e f = absurd (a refl)
no_assign class.AddTo n target words a b c d e f = absurd (b refl)
no_assign class.SubtractFrom n target words a b c d e f = absurd (c refl)
no_assign class.MultiplyBy n target words a b c d e f = absurd (d refl)
no_assign class.Increment n target words a b c d e f = absurd (e refl)
no_assign class.Decrement n target words a b c d e f = absurd (f refl)
no_assign _ n target words a b c d e f = refl

pub assign_stops : (fault : ReadFault) (n : ℕ) (target : Expr) (words : List Word) (k : Class) → k ≡ class_at words → fault ≡ wrong_at words
    → (k ≡ class.Set → ⊥) → (k ≡ class.AddTo → ⊥) → (k ≡ class.SubtractFrom → ⊥) → (k ≡ class.MultiplyBy → ⊥) → (k ≡ class.Increment → ⊥)
    → (k ≡ class.Decrement → ⊥)
    → Halts fault (assign_by (class_at words) n target words)
assign_stops fault n target words k is place a b c d e f =
    stops_wrong fault words _ (ap (λ kind. assign_by kind n target words) (sym is) ∙ no_assign k n target words a b c d e f) place

other_by_none : (k : Class) (n : ℕ) (words : List Word) → is_class class.Free k ≡ false
    → other_by k n words ≡ (closed_by k (read_below n) words >>= (λ base. read_target n base.0 base.1))
other_by_none class.Free n words none = absurd (cc)
other_by_none _ n words none = refl

-- a simple statement that is no `free`, behind its base
pub other_read : (n : ℕ) (words : List Word) (base : Expr) (left : List Word) → is_class class.Free (class_at words) ≡ false
    → closed_by (class_at words) (read_below n) words ≡ Ok (base, left) → other_by (class_at words) n words ≡ read_target n base left
other_read n words base left none read =
    other_by_none (class_at words) n words none ∙ ap (λ got. got >>= (λ b. read_target n b.0 b.1)) read

pub other_halts : (n : ℕ) (words : List Word) → is_class class.Free (class_at words) ≡ false
    → other_by (class_at words) n words ≡ (closed_by (class_at words) (read_below n) words >>= (λ base. read_target n base.0 base.1))
other_halts n words none = other_by_none (class_at words) n words none

simple_by_other : (k : Class) (n : ℕ) (words : List Word) → is_class class.Name k ≡ false → simple_by k n words ≡ other_by k n words
simple_by_other class.Name n words none = absurd (cc)
simple_by_other _ n words none = refl

pub simple_unnamed : (n : ℕ) (words : List Word) → is_class class.Name (class_at words) ≡ false
    → read_simple n words ≡ other_by (class_at words) n words
unfolding read_simple
simple_unnamed n words none = simple_by_other (class_at words) n words none

pub simple_named : (n : ℕ) (words : List Word) (first : Name) (left : List Word) → read_name words ≡ Ok (first, left)
    → read_simple n words ≡ read_named n first left
unfolding read_simple
simple_named n words first left read =
    let r = name_read words first left read in
    ap (λ k. simple_by k n words) (sym (seen_class class.Name (class_at words) r.seen)) ∙ ap (λ f. read_named n f (behind words)) r.name
    ∙ ap (read_named n first) r.rest

-- a clause that begins with a type that has no name
clause_by_type : (k : Class) (n : ℕ) (words : List Word) → is_type k ≡ true → clause_by k n words ≡ read_typed n words
clause_by_type class.Int n words is = refl
clause_by_type class.Void n words is = refl
clause_by_type class.Struct n words is = refl
clause_by_type _ n words is = absurd (cc)

pub clause_typed : (n : ℕ) (words : List Word) → is_type (class_at words) ≡ true → read_clause n words ≡ read_typed n words
unfolding read_clause
clause_typed n words is = clause_by_type (class_at words) n words is

clause_by_other : (k : Class) (n : ℕ) (words : List Word) → is_type k ≡ false → is_class class.Name k ≡ false
    → clause_by k n words ≡ (other_by k n words >>= (λ s. Ok (Does s.0, s.1)))
clause_by_other class.Int n words is none = absurd (cc)
clause_by_other class.Void n words is none = absurd (cc)
clause_by_other class.Struct n words is none = absurd (cc)
clause_by_other class.Name n words is none = absurd (cc)
clause_by_other _ n words is none = refl

pub clause_other : (n : ℕ) (words : List Word) → is_type (class_at words) ≡ false → is_class class.Name (class_at words) ≡ false
    → read_clause n words ≡ read_unnamed n words
unfolding read_clause
clause_other n words is none = clause_by_other (class_at words) n words is none

pub clause_of_name : (n : ℕ) (words : List Word) (first : Name) (left : List Word) → read_name words ≡ Ok (first, left)
    → read_clause n words ≡ clause_named (begins_declarator (class_at left)) n first left
unfolding read_clause
clause_of_name n words first left read =
    let r = name_read words first left read in
    ap (λ k. clause_by k n words) (sym (seen_class class.Name (class_at words) r.seen))
    ∙ ap (λ f. clause_named (begins_declarator (class_at (behind words))) n f (behind words)) r.name
    ∙ ap (λ w. clause_named (begins_declarator (class_at w)) n first w) r.rest

-- a clause of the class, and its semicolon
plain_by : Class → ℕ → List Word → Got Stmt
plain_by k n words = clause_by k n words >>= (λ c. take class.Semicolon c.1 >>= (λ rest. Ok (stmt_of c.0, rest)))

flat_by_plain : (k : Class) (n : ℕ) (words : List Word) → (k ≡ class.Semicolon → ⊥) → (k ≡ class.Break → ⊥) → (k ≡ class.Continue → ⊥)
    → (k ≡ class.Return → ⊥)
    → flat_by k n words ≡ plain_by k n words
unfolding plain_by
flat_by_plain class.Semicolon n words s b c r = absurd (s refl)
flat_by_plain class.Break n words s b c r = absurd (b refl)
flat_by_plain class.Continue n words s b c r = absurd (c refl)
flat_by_plain class.Return n words s b c r = absurd (r refl)
flat_by_plain _ n words s b c r = refl

pub flat_plain : (n : ℕ) (words : List Word) (k : Class) → k ≡ class_at words → (k ≡ class.Semicolon → ⊥) → (k ≡ class.Break → ⊥)
    → (k ≡ class.Continue → ⊥) → (k ≡ class.Return → ⊥)
    → flat_by (class_at words) n words ≡ read_plain n words
unfolding plain_by read_clause
flat_plain n words k is s b c r = ap (λ j. flat_by j n words) (sym is) ∙ flat_by_plain k n words s b c r ∙ ap (λ j. plain_by j n words) is
