-- Whether a key and an answer are well formed within the limits of a store, is decided.
use Rattle.std.specs.Prelude.{◌≡◌, ◌≢◌, ◌⊎◌, ◌+◌, ◌<◌, ◌≤◌, ℕ, zero, suc, Bool, true, false, List, [], ◌∷◌, is_some, length, slice_index}
use Rattle.std.specs.Prelude.{slice_index_or, All}
use Rattle.std.specs.Cmp.Lexicographic.{slice_cmp}
use Rattle.std.specs.List.{list_all, AllAdjacentBelow, AllPairs}
use Rattle.std.specs.Option.{IfSome, IsSomeAnd}
use Rattle.std.specs.Ordering.{nat_cmp}
use Rattle.std.specs.Str.{bytes_eq}
use Rattle.std.specs.declared.cmp.Ordering.{Ordering}
use Rattle.std.specs.declared.cmp.Ordering.TheVariants.{Equal, Greater, Less}
use Rattle.std.specs.declared.option.Option.{Option}
use Rattle.std.specs.declared.option.Option.TheVariants.{None, Some}
use Rattle.std.proofs.Common.{inl, inr, refl, ap, add-one, arith}
use Rattle.std.proofs.lemmas.Bool.{cases_lt}
use Rattle.std.proofs.lemmas.List.Elements.{All-cons, All-head, All-nil, All-tail}
use Rattle.std.proofs.lemmas.Slice.Eq.{bytes_eq-Decides}
use Rattle.shape_data.specs.declared.answer.Answer.{Answer}
use Rattle.shape_data.specs.declared.answer.Callee.{Callee}
use Rattle.shape_data.specs.declared.answer.Key.{Key}
use Rattle.shape_data.specs.declared.answer.ProcSummary.{ProcSummary}
use Rattle.shape_data.specs.declared.program.Cmd.{Cmd}
use Rattle.shape_data.specs.declared.program.Cmd.TheVariants as cmd
use Rattle.shape_data.specs.declared.program.Field.{Field}
use Rattle.shape_data.specs.declared.program.Flow.{Flow}
use Rattle.shape_data.specs.declared.program.HeadMark.{HeadMark}
use Rattle.shape_data.specs.declared.program.Node.{Node}
use Rattle.shape_data.specs.declared.program.Operand.{Operand}
use Rattle.shape_data.specs.declared.program.Operand.TheVariants.{Slot, Num}
use Rattle.shape_data.specs.declared.program.StructDef.{StructDef}
use Rattle.shape_data.specs.declared.program.Ty.{Ty}
use Rattle.shape_data.specs.declared.program.Ty.TheVariants.{Int, Ptr, Void}
use Rattle.shape_data.specs.declared.symbolic.Atom.{Atom}
use Rattle.shape_data.specs.declared.symbolic.Atom.TheVariants.{Points, Seg, Junk}
use Rattle.shape_data.specs.declared.symbolic.Cert.{Cert}
use Rattle.shape_data.specs.declared.symbolic.Exp.{Exp}
use Rattle.shape_data.specs.declared.symbolic.Exp.TheVariants.{Var, Const}
use Rattle.shape_data.specs.declared.symbolic.Fact.{Fact}
use Rattle.shape_data.specs.declared.symbolic.Fact.TheVariants.{Eq, Ne}
use Rattle.shape_data.specs.declared.symbolic.Post.{Post}
use Rattle.shape_data.specs.declared.symbolic.Spec.{Spec}
use Rattle.shape_data.specs.declared.symbolic.SymHeap.{SymHeap}
use Rattle.shape_data.specs.declared.symbolic.SymState.{SymState}
use Rattle.shape_data.specs.Heap.{struct_named}
use Rattle.shape_data.specs.Names.{is_name_byte, is_name_start, HaveDifferentNames, IsCName}
use Rattle.shape_data.specs.WellFormed.{storable, AreCallees, AreInNameOrder, AreKeyProcs, AreParams, AreStates, AreStructs, AreSummaries}
use Rattle.shape_data.specs.WellFormed.{FitCalls, FitKeyCalls, FitsCall, HasReason, IsAtom, IsCallee, IsCert, IsCmd, IsCountable, IsExp}
use Rattle.shape_data.specs.WellFormed.{IsFact, IsField, IsFlow, IsKind, IsMark, IsNode, IsOperand, IsPost, IsSpec, IsState}
use Rattle.shape_data.specs.WellFormed.{IsStorableAnswer, IsStorableKey, IsStruct, IsSummary, IsSymHeap, IsTy}

pub data Decided (P : Type 0) : Type 0 where
  holds : P → Decided P
  fails : (P → ⊥) → Decided P

-- ---- how parts are put together

by_part : {P Q : Type 0} → (P → Q) → (Q → P) → Decided P → Decided Q
by_part forth back (holds p) = holds (forth p)
by_part forth back (fails never) = fails (λ q. never (back q))

both : {P Q : Type 0} → Decided P → Decided Q → Decided (P × Q)
both (holds p) (holds q) = holds (p, q)
both (holds p) (fails never) = fails (λ pair. never pair.1)
both (fails never) other = fails (λ pair. never pair.0)

implied : {P Q : Type 0} → Decided P → Decided Q → Decided (P → Q)
implied (holds p) (holds q) = holds (λ _. q)
implied (holds p) (fails never) = fails (λ f. never (f p))
implied (fails never) other = holds (λ p. absurd (never p))

denied : {P : Type 0} → Decided P → Decided (P → ⊥)
denied (holds p) = fails (λ never. never p)
denied (fails never) = holds never

pub test : (b : Bool) → Decided (b ≡ true)
test true = holds refl
test false = fails (λ is. cc)

at_most : (few many : ℕ) → Decided (few ≤ many)
at_most few many = by_order (cases_lt many few)
  where
    by_order : (many < few) ⊎ (few ≤ many) → Decided (few ≤ many)
    by_order (inl more) = fails (λ within. omega (arith, more, within))
    by_order (inr within) = holds within

below : (few many : ℕ) → Decided (few < many)
below few many = at_most (suc few) many

pub same_number : (m n : ℕ) → Decided (m ≡ n)
same_number m n =
    by_part (λ both_ways. omega (arith, both_ways.0, both_ways.1)) (λ same. (omega (arith, same), omega (arith, same)))
    (both (at_most m n) (at_most n m))

pub same_bytes : (xs ys : List ℕ) → Decided (xs ≡ ys)
same_bytes xs ys = by_part (bytes_eq-Decides xs ys).0 (bytes_eq-Decides xs ys).1 (test (bytes_eq xs ys))

all_of : {A : Type 0} (P : A → Type 0) → ((x : A) → Decided (P x)) → (xs : List A) → Decided (All P xs)
all_of P decide [] = holds (All-nil P)
all_of P decide (x ∷ xs) =
    by_part (λ parts. All-cons P x xs parts.0 parts.1) (λ all. (All-head P x xs all, All-tail P x xs all))
    (both (decide x) (all_of P decide xs))

if_some : {A : Type 0} (P : A → Type 0) → ((x : A) → Decided (P x)) → (o : Option A) → Decided (IfSome o P)
if_some P decide None = holds tt
if_some P decide (Some x) = decide x

some_and : {A : Type 0} (P : A → Type 0) → ((x : A) → Decided (P x)) → (o : Option A) → Decided (IsSomeAnd o P)
some_and P decide None = fails (λ never. never)
some_and P decide (Some x) = decide x

-- ---- lists in which each two, or each two neighbours, are related

pairs_back : {A : Type 0} (R : A → A → Type 0) (x : A) (xs : List A) → AllPairs R (x ∷ xs) → All (R x) xs × AllPairs R xs
pairs_back R x xs all = (
  λ place other within. all 0 (suc place) other (omega arith) (omega (arith, within)),
  λ i j other less within. all (suc i) (suc j) other (omega (arith, less)) (omega (arith, within)),
)

pairs_forth : {A : Type 0} (R : A → A → Type 0) (x : A) (xs : List A) → All (R x) xs × AllPairs R xs → AllPairs R (x ∷ xs)
pairs_forth R x xs parts zero zero other less within = absurd (omega (arith, less))
pairs_forth R x xs parts zero (suc j) other less within = parts.0 j other (omega (arith, within))
pairs_forth R x xs parts (suc i) zero other less within = absurd (omega (arith, less))
pairs_forth R x xs parts (suc i) (suc j) other less within = parts.1 i j other (omega (arith, less)) (omega (arith, within))

each_two : {A : Type 0} (R : A → A → Type 0) → ((x y : A) → Decided (R x y)) → (xs : List A) → Decided (AllPairs R xs)
each_two R decide [] = holds (λ i j other less within. absurd (omega (arith, within)))
each_two R decide (x ∷ xs) = by_part (pairs_forth R x xs) (pairs_back R x xs) (both (all_of (R x) (decide x) xs) (each_two R decide xs))

different_names : {A : Type 0} (name_of : A → List ℕ) (things : List A) → Decided (HaveDifferentNames name_of things)
different_names name_of things =
    each_two (λ one other. name_of one ≢ name_of other) (λ one other. denied (same_bytes (name_of one) (name_of other))) things

abbrev IsNext : {A : Type 0} → (A → A → Type 0) → List A → Type 0
IsNext R [] = Unit {0}
IsNext R (x ∷ []) = Unit {0}
IsNext R (x ∷ y ∷ rest) = R x y × IsNext R (y ∷ rest)

next_forth : {A : Type 0} (R : A → A → Type 0) (xs : List A) → IsNext R xs → (k : ℕ) (other : A) → suc k < length xs →
    R (slice_index_or xs k other) (slice_index_or xs (suc k) other)
next_forth R [] all k other within = absurd (omega (arith, within))
next_forth R (x ∷ []) all k other within = absurd (omega (arith, within))
next_forth R (x ∷ y ∷ rest) all zero other within = all.0
next_forth R (x ∷ y ∷ rest) all (suc k) other within = next_forth R (y ∷ rest) all.1 k other (omega (arith, within))

next_back : {A : Type 0} (R : A → A → Type 0) (xs : List A) →
    ((k : ℕ) (other : A) → suc k < length xs → R (slice_index_or xs k other) (slice_index_or xs (suc k) other)) → IsNext R xs
next_back R [] all = tt
next_back R (x ∷ []) all = tt
next_back R (x ∷ y ∷ rest) all =
    (all 0 x (omega arith), next_back R (y ∷ rest) (λ k other within. all (suc k) other (omega (arith, within))))

each_next : {A : Type 0} (R : A → A → Type 0) → ((x y : A) → Decided (R x y)) → (xs : List A) → Decided (IsNext R xs)
each_next R decide [] = holds tt
each_next R decide (x ∷ []) = holds tt
each_next R decide (x ∷ y ∷ rest) = both (decide x y) (each_next R decide (y ∷ rest))

neighbours : {A : Type 0} (R : A → A → Type 0) → ((x y : A) → Decided (R x y)) → (xs : List A) → Decided (AllAdjacentBelow R xs (length xs))
neighbours R decide xs =
    by_part (λ all k other within. rw add-one (next_forth R xs all k other (omega (arith, within))))
    (λ all. next_back R xs (λ k other within. rw add-one at (all k other (omega (arith, within))))) (each_next R decide xs)

is_less : (o : Ordering) → Decided (o ≡ Less)
is_less Less = holds refl
is_less Equal = fails (λ is. cc)
is_less Greater = fails (λ is. cc)

in_name_order : (flows : List Flow) → Decided (AreInNameOrder flows)
in_name_order flows =
    neighbours (λ (one next : Flow). slice_cmp nat_cmp one.name next.name ≡ Less)
    (λ one next. is_less (slice_cmp nat_cmp one.name next.name)) flows

-- ---- programs

c_name : (name : List ℕ) → Decided (IsCName name)
c_name name =
    by_part (λ p. record { some = p.0; first = p.1.0; each = p.1.1 }) (λ is. (is.some, (is.first, is.each)))
    (both (below 0 (length name)) (both (test (is_name_start (slice_index name 0))) (test (list_all is_name_byte name))))

ty : (it : Ty) → Decided (IsTy it)
ty Int = holds tt
ty (Ptr name) = c_name name
ty Void = holds tt

struct : (def : StructDef) → Decided (IsStruct def)
struct def =
    by_part (λ p. record { name = p.0; fields = p.1.0; field_names = p.1.1.0; types = p.1.1.1.0; different = p.1.1.1.1 })
    (λ is. (is.name, (is.fields, (is.field_names, (is.types, is.different)))))
    (both (c_name def.name) (both (at_most (length def.fields) 32768)
    (both (all_of (λ (field : Field). IsCName field.name) (λ field. c_name field.name) def.fields)
    (both (all_of (λ (field : Field). IsTy field.ty) (λ field. ty field.ty) def.fields)
    (different_names (λ (field : Field). field.name) def.fields)))))

countable : {A : Type 0} (things : List A) → Decided (IsCountable things)
countable things = below (length things) 4294967296

are_structs : (structs : List StructDef) → Decided (AreStructs structs)
are_structs structs =
    by_part (λ p. record { countable = p.0; each = p.1.0; different = p.1.1 }) (λ is. (is.countable, (is.each, is.different)))
    (both (countable structs) (both (all_of IsStruct struct structs) (different_names (λ (def : StructDef). def.name) structs)))

are_params : (params : List (List ℕ)) → Decided (AreParams params)
are_params params =
    by_part (λ p. record { few = p.0; names = p.1.0; different = p.1.1 }) (λ is. (is.few, (is.names, is.different)))
    (both (at_most (length params) 32768) (both (all_of IsCName c_name params) (different_names (λ (name : List ℕ). name) params)))

operand : (slots : ℕ) (it : Operand) → Decided (IsOperand slots it)
operand slots (Slot slot) = below slot slots
operand slots (Num n) = holds tt

kind_known : (structs : List StructDef) (kind : List ℕ) → Decided (IsKind structs kind)
kind_known structs kind = test (is_some (struct_named structs kind))

field_known : (structs : List StructDef) (kind : List ℕ) (field : ℕ) → Decided (IsField structs kind field)
field_known structs kind field =
    some_and (λ (def : StructDef). field < length def.fields) (λ def. below field (length def.fields)) (struct_named structs kind)

three : {P Q R : Type 0} → Decided P → Decided Q → Decided R → Decided (P × Q × R)
three p q r = by_part (λ it. (it.0, it.1.0, it.1.1)) (λ it. (it.0, (it.1, it.2))) (both p (both q r))

four : {P Q R S : Type 0} → Decided P → Decided Q → Decided R → Decided S → Decided (P × Q × R × S)
four p q r s = by_part (λ it. (it.0, it.1.0, it.1.1.0, it.1.1.1)) (λ it. (it.0, (it.1, (it.2, it.3)))) (both p (both q (both r s)))

five : {P Q R S T : Type 0} → Decided P → Decided Q → Decided R → Decided S → Decided T → Decided (P × Q × R × S × T)
five p q r s t =
    by_part (λ it. (it.0, it.1.0, it.1.1.0, it.1.1.1.0, it.1.1.1.1)) (λ it. (it.0, (it.1, (it.2, (it.3, it.4)))))
    (both p (both q (both r (both s t))))

command : (structs : List StructDef) (slots nodes : ℕ) (it : Cmd) → Decided (IsCmd structs slots nodes it)
command structs slots nodes (cmd.Copy to from next) = three (below to slots) (operand slots from) (below next nodes)
command structs slots nodes (cmd.Arith to op left right next) =
    four (below to slots) (operand slots left) (operand slots right) (below next nodes)
command structs slots nodes (cmd.Any to kind next) = three (below to slots) (below next nodes) (ty kind)
command structs slots nodes (cmd.Load to base kind field next) =
    four (below to slots) (below base slots) (field_known structs kind field) (below next nodes)
command structs slots nodes (cmd.Store base kind field from next) =
    four (below base slots) (field_known structs kind field) (operand slots from) (below next nodes)
command structs slots nodes (cmd.New to kind next) = three (below to slots) (kind_known structs kind) (below next nodes)
command structs slots nodes (cmd.Free base kind next) = three (below base slots) (kind_known structs kind) (below next nodes)
command structs slots nodes (cmd.Call to callee args next) =
    five (if_some (λ slot. slot < slots) (λ slot. below slot slots) to) (countable args) (all_of (IsOperand slots) (operand slots) args)
    (below next nodes) (c_name callee)
command structs slots nodes (cmd.Branch op pointers left right on_true on_false) =
    four (operand slots left) (operand slots right) (below on_true nodes) (below on_false nodes)
command structs slots nodes (cmd.Return value) = operand slots value

mark : (slots : ℕ) (it : HeadMark) → Decided (IsMark slots it)
mark slots it =
    by_part (λ p. record { ints_countable = p.0; ints = p.1.0; dead_countable = p.1.1.0; dead = p.1.1.1 })
    (λ is. (is.ints_countable, (is.ints, (is.dead_countable, is.dead))))
    (both (countable it.ints) (both (all_of (λ slot. slot < slots) (λ slot. below slot slots) it.ints)
    (both (countable it.dead) (all_of (λ slot. slot < slots) (λ slot. below slot slots) it.dead))))

node : (structs : List StructDef) (slots nodes : ℕ) (it : Node) → Decided (IsNode structs slots nodes it)
node structs slots nodes it =
    by_part (λ p. record { command = p.0; head = p.1 }) (λ is. (is.command, is.head))
    (both (command structs slots nodes it.cmd) (if_some (IsMark slots) (mark slots) it.head))

flow : (structs : List StructDef) (it : Flow) → Decided (IsFlow structs it)
flow structs it =
    by_part (λ p. record {
      name = p.0;
      params = p.1.0;
      param_slots = p.1.1.0;
      slots = p.1.1.1.0;
      types = p.1.1.1.1.0;
      ret = p.1.1.1.1.1.0;
      entry = p.1.1.1.1.1.1.0;
      countable = p.1.1.1.1.1.1.1.0;
      nodes = p.1.1.1.1.1.1.1.1;
    })
    (λ is. (is.name, (is.params, (is.param_slots, (is.slots, (is.types, (is.ret, (is.entry, (is.countable, is.nodes)))))))))
    (both (c_name it.name)
    (both (are_params it.params) (both (at_most (length it.params) (length it.slots)) (both (at_most (length it.slots) 32768)
    (both (all_of IsTy ty it.slots) (both (ty it.ret) (both (below 0 (length it.nodes)) (both (countable it.nodes)
    (all_of (IsNode structs (length it.slots) (length it.nodes)) (node structs (length it.slots) (length it.nodes)) it.nodes)))))))))

key_procs : (structs : List StructDef) (flows : List Flow) → Decided (AreKeyProcs structs flows)
key_procs structs flows =
    by_part (λ p. record { some = p.0; countable = p.1.0; each = p.1.1.0; ordered = p.1.1.1 })
    (λ is. (is.some, (is.countable, (is.each, is.ordered))))
    (both (below 0 (length flows)) (both (countable flows) (both (all_of (IsFlow structs) (flow structs) flows) (in_name_order flows))))

-- ---- symbolic heaps and specs

exp : (params : ℕ) (e : Exp) → Decided (IsExp storable params e)
exp params (Var x) = test (storable.variables params x)
exp params (Const n) = holds tt

fact : (params : ℕ) (it : Fact) → Decided (IsFact storable params it)
fact params (Eq left right) = both (exp params left) (exp params right)
fact params (Ne left right) = both (exp params left) (exp params right)

atom : (structs : List StructDef) (params : ℕ) (it : Atom) → Decided (IsAtom storable structs params it)
atom structs params (Points at kind fields) =
    three (exp params at)
    (some_and (λ (def : StructDef). length fields ≡ length def.fields) (λ def. same_number (length fields) (length def.fields))
    (struct_named structs kind)) (all_of (IsExp storable params) (exp params) fields)
atom structs params (Seg kind link from to) = three (field_known structs kind link) (exp params from) (exp params to)
atom structs params Junk = holds tt

heap : (structs : List StructDef) (params : ℕ) (it : SymHeap) → Decided (IsSymHeap storable structs params it)
heap structs params it =
    by_part (λ p. record { parts = p.0; facts = p.1.0; atoms = p.1.1 }) (λ is. (is.parts, (is.facts, is.atoms)))
    (both (at_most (length it.pure + length it.spatial) 96) (both (all_of (IsFact storable params) (fact params) it.pure)
    (all_of (IsAtom storable structs params) (atom structs params) it.spatial)))

post : (structs : List StructDef) (params : ℕ) (it : Post) → Decided (IsPost storable structs params it)
post structs params it =
    by_part (λ p. record { ret = p.0; heap = p.1 }) (λ is. (is.ret, is.heap)) (both (exp params it.ret) (heap structs params it.heap))

spec : (structs : List StructDef) (params : ℕ) (it : Spec) → Decided (IsSpec storable structs params it)
spec structs params it =
    by_part (λ p. record { pre = p.0; countable = p.1.0; posts = p.1.1 }) (λ is. (is.pre, (is.countable, is.posts)))
    (both (heap structs params it.pre) (both (countable it.posts) (all_of (IsPost storable structs params) (post structs params) it.posts)))

callee : (structs : List StructDef) (it : Callee) → Decided (IsCallee storable structs it)
callee structs it =
    by_part (λ p. record { name = p.0; params = p.1.0; few = p.1.1.0; specs = p.1.1.1 }) (λ is. (is.name, (is.params, (is.few, is.specs))))
    (both (c_name it.name) (both (are_params it.params) (both (at_most (length it.specs) 8)
    (all_of (IsSpec storable structs (length it.params)) (spec structs (length it.params)) it.specs))))

-- ---- keys

callees : (structs : List StructDef) (all : List Callee) → Decided (AreCallees storable structs all)
callees structs all =
    by_part (λ p. record { countable = p.0; each = p.1.0; different = p.1.1 }) (λ is. (is.countable, (is.each, is.different)))
    (both (countable all)
    (both (all_of (IsCallee storable structs) (callee structs) all) (different_names (λ (one : Callee). one.name) all)))

fits_call : {A : Type 0} (name_of : A → List ℕ) (params_of : A → List (List ℕ)) (listed : List A) (it : Cmd) →
    Decided (FitsCall name_of params_of listed it)
fits_call name_of params_of listed (cmd.Call to called args next) =
    all_of (λ one. name_of one ≡ called → length (params_of one) ≡ length args)
    (λ one. implied (same_bytes (name_of one) called) (same_number (length (params_of one)) (length args))) listed
fits_call name_of params_of listed (cmd.Copy to from next) = holds tt
fits_call name_of params_of listed (cmd.Arith to op left right next) = holds tt
fits_call name_of params_of listed (cmd.Any to kind next) = holds tt
fits_call name_of params_of listed (cmd.Load to base kind field next) = holds tt
fits_call name_of params_of listed (cmd.Store base kind field from next) = holds tt
fits_call name_of params_of listed (cmd.New to kind next) = holds tt
fits_call name_of params_of listed (cmd.Free base kind next) = holds tt
fits_call name_of params_of listed (cmd.Branch op pointers left right on_true on_false) = holds tt
fits_call name_of params_of listed (cmd.Return value) = holds tt

fit_calls : {A : Type 0} (name_of : A → List ℕ) (params_of : A → List (List ℕ)) (listed : List A) (it : Flow) →
    Decided (FitCalls name_of params_of listed it)
fit_calls name_of params_of listed it =
    all_of (λ (one : Node). FitsCall name_of params_of listed one.cmd) (λ one. fits_call name_of params_of listed one.cmd) it.nodes

key_calls : (flows : List Flow) (all : List Callee) → Decided (FitKeyCalls flows all)
key_calls flows all =
    by_part (λ p. record { own = p.0; outer = p.1 }) (λ is. (is.own, is.outer))
    (both (all_of (FitCalls (λ (one : Flow). one.name) (λ (one : Flow). one.params) flows)
    (fit_calls (λ (one : Flow). one.name) (λ (one : Flow). one.params) flows) flows)
    (all_of (FitCalls (λ (one : Callee). one.name) (λ (one : Callee). one.params) all)
    (fit_calls (λ (one : Callee). one.name) (λ (one : Callee). one.params) all) flows))

pub key_is : (key : Key) → Decided (IsStorableKey key)
key_is key =
    by_part (λ p. record { structs = p.0; procs = p.1.0; callees = p.1.1.0; apart = p.1.1.1.0; calls = p.1.1.1.1 })
    (λ is. (is.structs, (is.procs, (is.callees, (is.apart, is.calls)))))
    (both (are_structs key.structs) (both (key_procs key.structs key.procs) (both (callees key.structs key.callees)
    (both (all_of (λ (proc : Flow). All (λ (one : Callee). proc.name ≢ one.name) key.callees)
    (λ proc. all_of (λ (one : Callee). proc.name ≢ one.name) (λ one. denied (same_bytes proc.name one.name)) key.callees) key.procs)
    (key_calls key.procs key.callees)))))

-- ---- answers

state : (structs : List StructDef) (params slots : ℕ) (it : SymState) → Decided (IsState storable structs params slots it)
state structs params slots it =
    by_part (λ p. record { one_each = p.0; locals = p.1.0; heap = p.1.1 }) (λ is. (is.one_each, (is.locals, is.heap)))
    (both (same_number (length it.locals) slots)
    (both (all_of (IsExp storable params) (exp params) it.locals) (heap structs params it.heap)))

states : (structs : List StructDef) (params slots : ℕ) (all : List SymState) → Decided (AreStates storable structs params slots all)
states structs params slots all =
    by_part (λ p. record { few = p.0; each = p.1 }) (λ is. (is.few, is.each))
    (both (at_most (length all) 16) (all_of (IsState storable structs params slots) (state structs params slots) all))

cert : (structs : List StructDef) (it : Flow) (one : Cert) → Decided (IsCert storable structs it one)
cert structs it one =
    by_part (λ p. record { one_each = p.0; nodes = p.1.0; few = p.1.1.0; exits = p.1.1.1 })
    (λ is. (is.one_each, (is.nodes, (is.few, is.exits))))
    (both (same_number (length one.nodes) (length it.nodes))
    (both (all_of (AreStates storable structs (length it.params) (length it.slots))
    (states structs (length it.params) (length it.slots)) one.nodes)
    (both (at_most (length one.exits) 16)
    (all_of (IsPost storable structs (length it.params)) (post structs (length it.params)) one.exits))))

summary : (structs : List StructDef) (it : Flow) (one : ProcSummary) → Decided (IsSummary storable structs it one)
summary structs it one =
    by_part (λ p. record { name = p.0; few = p.1.0; specs = p.1.1.0; one_each = p.1.1.1.0; certs = p.1.1.1.1 })
    (λ is. (is.name, (is.few, (is.specs, (is.one_each, is.certs)))))
    (both (same_bytes one.name it.name) (both (at_most (length one.specs) 8)
    (both (all_of (IsSpec storable structs (length it.params)) (spec structs (length it.params)) one.specs)
    (both (same_number (length one.certs) (length one.specs)) (all_of (IsCert storable structs it) (cert structs it) one.certs)))))

-- one for each procedure
abbrev AreEach : List StructDef → List Flow → List ProcSummary → Type 0
AreEach structs [] [] = Unit {0}
AreEach structs [] (one ∷ others) = ⊥
AreEach structs (it ∷ flows) [] = ⊥
AreEach structs (it ∷ flows) (one ∷ others) = IsSummary storable structs it one × AreEach structs flows others

each_forth : (structs : List StructDef) (flows : List Flow) (all : List ProcSummary) → AreEach structs flows all →
    AreSummaries storable structs flows all
each_forth structs [] [] are = record { one_each = refl; each = λ place it one within. absurd (omega (arith, within)) }
each_forth structs [] (one ∷ others) are = absurd are
each_forth structs (it ∷ flows) [] are = absurd are
each_forth structs (it ∷ flows) (one ∷ others) are =
    let rest = each_forth structs flows others are.1 in record { one_each = ap suc rest.one_each; each = at rest.each }
  where
    at : ((place : ℕ) (f : Flow) (s : ProcSummary) → place < length flows →
        IsSummary storable structs (slice_index_or flows place f) (slice_index_or others place s)) →
        (place : ℕ) (f : Flow) (s : ProcSummary) → place < length (it ∷ flows) →
        IsSummary storable structs (slice_index_or (it ∷ flows) place f) (slice_index_or (one ∷ others) place s)
    at later zero f s within = are.0
    at later (suc place) f s within = later place f s (omega (arith, within))

each_back : (structs : List StructDef) (flows : List Flow) (all : List ProcSummary) → AreSummaries storable structs flows all →
    AreEach structs flows all
each_back structs [] [] are = tt
each_back structs [] (one ∷ others) are = let same = are.one_each in omega (arith, same)
each_back structs (it ∷ flows) [] are = let same = are.one_each in omega (arith, same)
each_back structs (it ∷ flows) (one ∷ others) are = (
  are.each 0 it one (omega arith),
  each_back structs flows others (record {
    one_each = let same = are.one_each in omega (arith, same);
    each = λ place f s within. are.each (suc place) f s (omega (arith, within));
  }),
)

each_summary : (structs : List StructDef) (flows : List Flow) (all : List ProcSummary) → Decided (AreEach structs flows all)
each_summary structs [] [] = holds tt
each_summary structs [] (one ∷ others) = fails (λ never. never)
each_summary structs (it ∷ flows) [] = fails (λ never. never)
each_summary structs (it ∷ flows) (one ∷ others) = both (summary structs it one) (each_summary structs flows others)

none_left : {A : Type 0} (xs : List A) → Decided (xs ≡ [])
none_left [] = holds refl
none_left (x ∷ xs) = fails (λ is. cc)

pub answer_is : (key : Key) (answer : Answer) → Decided (IsStorableAnswer key answer)
answer_is key answer =
    by_part (λ p. record { answers = p.0; reasons = p.1 }) (λ is. (is.answers, is.reasons))
    (both (by_part (each_forth key.structs key.procs answer.procs) (each_back key.structs key.procs answer.procs)
    (each_summary key.structs key.procs answer.procs))
    (all_of HasReason (λ one. implied (none_left one.specs) (test (is_some one.reason))) answer.procs))
