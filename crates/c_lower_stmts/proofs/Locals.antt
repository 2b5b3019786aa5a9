-- Locals, one behind another.
use Rattle.std.proofs.Common.{◌≡◌, ℕ, suc, ◌+◌, ◌<◌, ◌≤◌, List, [], ◌∷◌, ◌++◌, length, min, refl, sym, ap, ◌∙◌, subst, append_assoc, arith}
use Rattle.std.proofs.lemmas.List.{append-nil}
use Rattle.std.proofs.Math.Nat.{min-eq_left}
use Rattle.std.specs.Prelude.{Option, Some, None, All}
use Rattle.shape_data.specs.declared.program.Ty.{Ty}
use Rattle.c_grammar.specs.Trees.{Name, Specifier, BinaryOp, PrefixOp, Expr, Links, Initialized}
use Rattle.c_types_rules.specs.Types.{Kind}
use Rattle.c_types_rules.specs.Tables.{object_kind}
use Rattle.c_types_rules.specs.Scopes.{with_variable}
use Rattle.c_types_rules.specs.Programs.{known}
use Rattle.c_lower_rules.specs.Code.{nothing, ◌⨾◌}
use Rattle.c_lower_rules.specs.Contexts.{Context}
use Rattle.c_lower_rules.specs.Temporaries.{Temp}
use Rattle.c_lower_rules.specs.Values.{Lowering}
use Rattle.c_lower_rules.specs.Expressions.{field_behind, member, members, binary, prefix, lowering, chain}
use Rattle.c_lower_rules.specs.Statements.{State, Lowered, with_local, initial, local, locals, joined}
use Rattle.c_lower_rules.specs.Numbers.{InitializedHasIntNumbers}
use Rattle.c_lower_emit.specs.declared.drafts.Label.TheVariants.{At}
use Rattle.c_lower_emit.specs.Drafts.{next_at}
use Rattle.c_lower_emit.specs.Emitting.{Out, led_out, HasRoom, EmitsCode}
use Rattle.c_lower_emit.proofs.Joining.{behind_nodes, room_first, room_then, code_then, SameCode, same_code, same_back, same_both}
use Rattle.c_lower_emit.proofs.Joining.{same_behind, same_nothing_behind, same_nothing_before, same_groups}
use Rattle.c_lower_exprs.specs.Contexts.{on_line}
use Rattle.c_lower_stmts.specs.Simples.{EmitsPiece}
use Rattle.c_lower_stmts.specs.Declaring.{IsDeclared, Declares}
use Rattle.c_lower_stmts.specs.Standing.{state, HasSlots}

-- EACH LOCAL HAS A NODE

abbrev pub HasNode : Lowering → Type 0
HasNode l = (to : ℕ) (temps : List Temp) → 1 ≤ (l.into to temps).code.size

binary_node : (c : Context) (op : BinaryOp) (l r : Lowering) → HasNode (binary c op l r)
binary_node c BinaryOp.Or l r to temps = omega arith
binary_node c BinaryOp.And l r to temps = omega arith
binary_node c BinaryOp.Equal l r to temps = omega arith
binary_node c BinaryOp.NotEqual l r to temps = omega arith
binary_node c BinaryOp.Less l r to temps = omega arith
binary_node c BinaryOp.LessEqual l r to temps = omega arith
binary_node c BinaryOp.Greater l r to temps = omega arith
binary_node c BinaryOp.GreaterEqual l r to temps = omega arith
binary_node c BinaryOp.Add l r to temps = omega arith
binary_node c BinaryOp.Subtract l r to temps = omega arith
binary_node c BinaryOp.Multiply l r to temps = omega arith

prefix_node : (c : Context) (op : PrefixOp) (l : Lowering) → HasNode (prefix c op l)
prefix_node c PrefixOp.Negate l to temps = omega arith
prefix_node c PrefixOp.Not l to temps = omega arith

members_node : (c : Context) (l : Lowering) (first : Name) (others : List Name) → HasNode (members c l (first ∷ others))
members_node c l first [] = λ to temps. omega arith
members_node c l first (next ∷ others) = members_node c (member c l (field_behind c l.kind first)) next others

chain_node : (c : Context) (l : Lowering) (links : Links) → HasNode l → HasNode (chain c l links)
chain_node c l Links.NoLinks h = h
chain_node c l (Links.Link op operand others) h =
    chain_node c (binary c op l (lowering c operand)) others (binary_node c op l (lowering c operand))

expr_node : (c : Context) (e : Expr) → HasNode (lowering c e)
expr_node c (Expr.Chain first others) = chain_node c (lowering c first) others (expr_node c first)
expr_node c (Expr.Prefix place op inner) = prefix_node c op (lowering c inner)
expr_node c (Expr.Members base first others) = members_node c (lowering c base) first others
expr_node c (Expr.Variable n) = λ to temps. omega arith
expr_node c (Expr.Number place value) = λ to temps. omega arith
expr_node c (Expr.Null place) = λ to temps. omega arith
expr_node c (Expr.Paren place inner) = expr_node c inner
expr_node c (Expr.Call callee args) = λ to temps. omega arith
expr_node c (Expr.Malloc place as_type allocated) = λ to temps. omega arith

initial_node : (c : Context) (to : ℕ) (kind : Ty) (value : Option Expr) (temps : List Temp) → 1 ≤ (initial c to kind value temps).code.size
initial_node c to kind None temps = omega arith
initial_node c to kind (Some value) temps = expr_node c value to temps

-- ONE LOCAL

pub local_declared : (c c' : Context) (line count to then : ℕ) (specifier : Specifier) (one : Initialized) (kind : Kind) (old new : Out)
    → kind ≡ object_kind c.env.tables specifier one.declarator.stars → to ≡ min (c.first_local + count) 4294967295
    → c' ≡ record c {
      env = with_variable c.env one.declarator.name.text kind;
      bound = record { name = one.declarator.name.text; slot = to } ∷ c.bound;
    }
    → EmitsPiece (initial (on_line c' line) to (known kind) one.value) c'.first_temp old new → then ≡ min (count + 1) 4294967295
    → Declares (local specifier one (state (on_line c line) count old)) c line count c' then old new
local_declared c c' line count to then specifier one kind old new kinds sat adds emits sat' room slots =
    let name = one.declarator.name.text in
    let kind' = object_kind c.env.tables specifier one.declarator.stars in
    let ctx = with_local (on_line c line) count specifier one in
    let some = initial_node ctx (c.first_local + count) (known kind') one.value old.temps in
    let is : to ≡ c.first_local + count = sat ∙ min-eq_left (omega (arith, slots)) in
    let next : then ≡ count + 1 = sat' ∙ min-eq_left (omega (arith, slots, some)) in
    let same : on_line c' line ≡ ctx =
    ap (λ x. on_line x line) adds
    ∙ ap (λ k. record (on_line c line) { env = with_variable c.env name k; bound = record { name = name; slot = to } ∷ c.bound }) kinds
    ∙ ap (λ s. record (on_line c line) { env = with_variable c.env name kind'; bound = record { name = name; slot = s } ∷ c.bound }) is in
    let first : c'.first_temp ≡ c.first_temp = ap (λ (x : Context). x.first_temp) adds in
    let piece : EmitsPiece (initial ctx (c.first_local + count) (known kind') one.value) c.first_temp old new =
    subst (λ f. EmitsPiece (initial ctx (c.first_local + count) (known kind') one.value) f old new) first
    (subst (λ s. EmitsPiece (initial ctx s (known kind') one.value) c'.first_temp old new) is
    (subst (λ k. EmitsPiece (initial ctx to (known k) one.value) c'.first_temp old new) kinds
    (subst (λ x. EmitsPiece (initial x to (known kind) one.value) c'.first_temp old new) same emits))) in
    record { emits = piece room; locals_then = omega (arith, next); context = same; grown = omega (arith, next, some) }

-- ONE MORE LOCAL

pub record SameLowered (one other : Lowered) : Type 0 where
  pub code : SameCode one.code other.code
  pub behind : one.behind ≡ other.behind

locals_more : (specifier : Specifier) (done : List Initialized) (one : Initialized) (before : State)
    → SameLowered (locals specifier (done ++ one ∷ []) before) (joined (locals specifier done before)
    (local specifier one (locals specifier done before).behind))
locals_more specifier [] one before =
    let l = (local specifier one before).code in
    record {
      code = same_both (l ⨾ nothing) l (nothing ⨾ l) (same_nothing_behind l) (same_back (nothing ⨾ l) l (same_nothing_before l));
      behind = refl;
    }
locals_more specifier (first ∷ done) one before =
    let f = local specifier first before in
    let h = locals_more specifier done one f.behind in
    let a = locals specifier done f.behind in
    let b = local specifier one a.behind in
    record {
      code =
          same_both (f.code ⨾ (locals specifier (done ++ one ∷ []) f.behind).code) (f.code ⨾ (a.code ⨾ b.code)) ((f.code ⨾ a.code) ⨾ b.code)
          (same_behind f.code (locals specifier (done ++ one ∷ []) f.behind).code (a.code ⨾ b.code) h.code)
          (same_back ((f.code ⨾ a.code) ⨾ b.code) (f.code ⨾ (a.code ⨾ b.code)) (same_groups f.code a.code b.code));
      behind = h.behind;
    }

locals_first_temp : (specifier : Specifier) (ones : List Initialized) (before : State)
    → (locals specifier ones before).behind.context.first_temp ≡
    before.context.first_temp
locals_first_temp specifier [] before = refl
locals_first_temp specifier (first ∷ others) before = locals_first_temp specifier others (local specifier first before).behind

locals_first_local : (specifier : Specifier) (ones : List Initialized) (before : State)
    → (locals specifier ones before).behind.context.first_local ≡
    before.context.first_local
locals_first_local specifier [] before = refl
locals_first_local specifier (first ∷ others) before = locals_first_local specifier others (local specifier first before).behind

same_declared : (l l' : Lowered) (c : Context) (line count : ℕ) (c' : Context) (count' : ℕ) (old new : Out) → SameLowered l l'
    → Declares l' c line count c' count' old new
    → Declares l c line count c' count' old new
same_declared l l' c line count c' count' old new same h room slots =
    let size = same.code.size in
    let d = h (subst (λ n. HasRoom c.first_temp n old) size room) (subst (HasSlots c count) size slots) in
    let grown = d.grown in
    record {
      emits = same_code l'.code l.code l.behind.temps (At (length old.nodes)) old new (same_back l.code l'.code same.code)
          (subst (λ b. EmitsCode l'.code b.temps (At (length old.nodes)) old new) (sym same.behind) d.emits);
      locals_then = d.locals_then ∙ ap (λ (b : State). b.locals) (sym same.behind);
      context = d.context ∙ ap (λ (b : State). b.context) (sym same.behind);
      grown = omega (arith, grown, size);
    }

pub locals_one : (specifier : Specifier) (one : Initialized) (c : Context) (line count : ℕ) (c' : Context) (count' : ℕ) (old new : Out)
    → Declares (local specifier one (state (on_line c line) count old)) c line count c' count' old new
    → Declares (locals specifier (one ∷ []) (state (on_line c line) count old)) c line count c' count' old new
locals_one specifier one c line count c' count' old new h =
    same_declared (locals specifier (one ∷ []) (state (on_line c line) count old))
    (local specifier one (state (on_line c line) count old)) c line count c' count' old new
    (record { code = same_nothing_behind (local specifier one (state (on_line c line) count old)).code; behind = refl }) h

pub local_behind_declared : (specifier : Specifier) (done : List Initialized) (one : Initialized) (first c c' : Context)
    (line start count then : ℕ)
    (old now new led : Out) (from past here : ℕ)
    → Declares (locals specifier done (state (on_line first line) start old)) first line start c count old now
    → Declares (local specifier one (state (on_line c line) count now)) c line count c' then now new
    → from ≡ length old.nodes → past ≡ length now.nodes → (length now.nodes < 4294967296 → here ≡ length now.nodes)
    → (from ≤ past → past ≤ length new.nodes → led ≡ led_out from past (next_at (At here)) new)
    → Declares (locals specifier (done ++ one ∷ []) (state (on_line first line) start old)) first line start c' then old led
local_behind_declared specifier done one first c c' line start count then old now new led from past here h k begin there at leads =
    same_declared (locals specifier (done ++ one ∷ []) before) (joined a (local specifier one a.behind)) first line start c' then old led
    (locals_more specifier done one before) (λ room slots.
    let b = local specifier one a.behind in
    let d = h (room_first first.first_temp a.code.size b.code.size old room) (omega (arith, slots)) in
    let temps = d.emits.grows.temps in
    let is : state (on_line c line) count now ≡ a.behind =
    ap (λ t. record { temps = t; locals = count; context = on_line c line }) temps
    ∙ ap (λ n. record { temps = a.behind.temps; locals = n; context = on_line c line }) d.locals_then
    ∙ ap (λ x. record { temps = a.behind.temps; locals = a.behind.locals; context = x }) d.context in
    let first_temp : c.first_temp ≡ first.first_temp =
    ap (λ (x : Context). x.first_temp) d.context ∙ locals_first_temp specifier done before in
    let first_local : c.first_local ≡ first.first_local =
    ap (λ (x : Context). x.first_local) d.context ∙ locals_first_local specifier done before in
    let size : (local specifier one (state (on_line c line) count now)).code.size ≡ b.code.size =
    ap (λ s. (local specifier one s).code.size) is in
    let grown = d.grown in
    let room' = room_then first.first_temp a.code.size b.code.size old now room d.emits.grows in
    let nodes = room'.nodes in
    let e = k (subst (λ n. HasRoom c.first_temp n now) (sym size) (subst (λ f. HasRoom f b.code.size now) (sym first_temp) room'))
    (omega (arith, slots, first_local, grown, size)) in
    let e' : IsDeclared b line count c' then now new = subst (λ s. IsDeclared (local specifier one s) line count c' then now new) is e in
    let drafts = e'.emits.drafts in
    let behind = behind_nodes old now d.emits.grows in
    let behind' = behind_nodes {ds = drafts} now new e'.emits.grows in
    let more = e'.grown in
    let here_is : here ≡ length now.nodes = at (omega (arith, nodes)) in
    let led_is : led ≡ led_out (length old.nodes) (length now.nodes) (next_at (At (length now.nodes))) new =
    leads (omega (arith, begin, there, behind)) (omega (arith, there, behind'))
    ∙ ap (λ f. led_out f past (next_at (At here)) new) begin ∙ ap (λ p. led_out (length old.nodes) p (next_at (At here)) new) there
    ∙ ap (λ x. led_out (length old.nodes) (length now.nodes) (next_at (At x)) new) here_is in
    record {
      emits = subst (λ x. EmitsCode (a.code ⨾ b.code) b.behind.temps (At (length old.nodes)) old x) (sym led_is)
          (code_then a.code b.code a.behind.temps b.behind.temps (At (length old.nodes))
          (At (length now.nodes)) old now new d.emits e'.emits);
      locals_then = e'.locals_then;
      context = e'.context;
      grown = omega (arith, grown, more);
    })
  where
    before : State
    before = state (on_line first line) start old

    a : Lowered
    a = locals specifier done before

-- ALL LOCALS OF A DECLARATION

-- some were declared; what is left are these
pub record LocalsSoFar (specifier : Specifier) (first : Context) (line start : ℕ) (all left : List Initialized) (old : Out) (c : Context)
    (count : ℕ)
    (now : Out) : Type 0 where
  pub done : List Initialized
  pub parts : done ++ left ≡ all
  pub declares : Declares (locals specifier done (state (on_line first line) start old)) first line start c count old now
  pub numbers : All InitializedHasIntNumbers left

pub locals_begun : (specifier : Specifier) (first : Context) (line start : ℕ) (one : Initialized) (others left : List Initialized)
    (old : Out) (c : Context)
    (count : ℕ) (now : Out) → others ≡ left
    → All InitializedHasIntNumbers others
    → Declares (local specifier one (state (on_line first line) start old)) first line start c count old now
    → LocalsSoFar specifier first line start (one ∷ others) left old c count now
locals_begun specifier first line start one others left old c count now same numbers h = record {
  done = one ∷ [];
  parts = ap (λ xs. one ∷ xs) (sym same);
  declares = locals_one specifier one first line start c count old now h;
  numbers = subst (All InitializedHasIntNumbers) same numbers;
}

pub locals_turned : (specifier : Specifier) (first : Context) (line start : ℕ) (all left others : List Initialized) (one : Initialized)
    (old : Out)
    (c c' : Context) (count then : ℕ) (now new : Out) (begin : ℕ)
    → left ≡ one ∷ others → begin ≡ length old.nodes → LocalsSoFar specifier first line start all left old c count now
    → (InitializedHasIntNumbers one → (done : List Initialized) → (first : Context) → (start : ℕ) → (old : Out) → begin ≡ length old.nodes
    → Declares (locals specifier done (state (on_line first line) start old)) first line start c count old now
    → Declares (locals specifier (done ++ one ∷ []) (state (on_line first line) start old)) first line start c' then old new)
    → LocalsSoFar specifier first line start all others old c' then new
locals_turned specifier first line start all left others one old c c' count then now new begin same at h declares =
    let numbers = subst (All InitializedHasIntNumbers) same h.numbers in
    record {
      done = h.done ++ one ∷ [];
      parts = append_assoc h.done (one ∷ []) others ∙ ap (λ xs. h.done ++ xs) (sym same) ∙ h.parts;
      declares = declares (numbers 0 one (omega arith)) h.done first start old at h.declares;
      numbers = λ k d lt. numbers (suc k) d (omega (arith, lt));
    }

pub locals_ended : (specifier : Specifier) (first : Context) (line start : ℕ) (all left : List Initialized) (old : Out) (c : Context)
    (count : ℕ)
    (now : Out) → left ≡ []
    → LocalsSoFar specifier first line start all left old c count now
    → Declares (locals specifier all (state (on_line first line) start old)) first line start c
    count old now
locals_ended specifier first line start all left old c count now none h =
    subst (λ xs. Declares (locals specifier xs (state (on_line first line) start old)) first line start c count old now)
    (sym (append-nil h.done) ∙ ap (λ xs. h.done ++ xs) (sym none) ∙ h.parts) h.declares
