-- Where nothing is refused in an expression, its code is good.
use Rattle.std.proofs.Common.{◌≡◌, ℕ, ◌<◌, Bool, true, false, cond, List, [], ◌∷◌, ◌++◌, refl, subst, sym, ap, ◌∙◌}
use Rattle.std.specs.Prelude.{Option, Some, None, IfSome, pos, not}
use Rattle.std.specs.Str.{bytes_eq}
use Rattle.shape_data.specs.declared.program.Operand.TheVariants.{Slot, Num}
use Rattle.shape_data.specs.declared.program.StructDef.{StructDef}
use Rattle.shape_data.specs.declared.program.Ty.{Ty}
use Rattle.shape_data.specs.declared.program.Ty.TheVariants.{Int, Ptr, Void}
use Rattle.shape_data.specs.Names.{IsCName}
use Rattle.shape_data.specs.WellFormed.{IsTy, IsField, IsKind, IsCountable}
use Rattle.c_grammar.specs.declared.tokens.places.Place.{Place}
use Rattle.c_grammar.specs.Trees.{Name, BinaryOp, PrefixOp, Expr, Links, Args}
use Rattle.c_grammar.specs.FirstPlaces.{place_of_expr}
use Rattle.c_types_rules.specs.Types.{Kind}
use Rattle.c_types_rules.specs.Tables.{Tables, FieldKind, procedure_in, is_defined, field_of, field_place}
use Rattle.c_types_rules.specs.Items.{listed}
use Rattle.c_types_rules.specs.Scopes.{Variable, variable_in, variable}
use Rattle.c_types_rules.specs.Expressions.{kind_of_variable, kind_of_member, kind_of_members, kind_of_binary, kind_of_prefix, kind_of}
use Rattle.c_types_rules.specs.Expressions.{kind_of_chain, is_null, Given, may_stand_by, lacks, member_refusals, members_refusals}
use Rattle.c_types_rules.specs.Expressions.{expr_refusals, links_refusals, args_refusals}
use Rattle.c_types_rules.specs.Programs.{known}
use Rattle.c_types_rules.proofs.KnownTables.{nil_left, nil_right, holds, IsSound}
use Rattle.c_types_rules.proofs.KnownExprs.{SoundEnv, plain_known, gives_kind, binary_sound, member_sound}
use Rattle.c_lower_rules.specs.Contexts.{Bound, Context, slot_in, slot_of}
use Rattle.c_lower_rules.specs.Values.{Lowering, is_pointer}
use Rattle.c_lower_rules.specs.Expressions.{binary, prefix, field_behind, member, members, lowering, chain, lowerings}
use Rattle.c_lower_rules.proofs.Uses.{IsLined, GoodLowering, at_hand_good}
use Rattle.c_lower_rules.proofs.Operators.{binary_good, prefix_good, IsFieldThere, member_good, AreGoodLowerings}

-- THE PROGRAM AND THE SCOPE

-- a program's structures are those of its tables, and its names are C names
pub record Fits (structs : List StructDef) (tables : Tables) : Type 0 where
  pub tags : (tag : List ℕ) → is_defined tables tag ≡ true → IsCName tag
  pub kinds : (tag : List ℕ) → is_defined tables tag ≡ true → IsKind structs tag
  pub fields : (tag n : List ℕ) → IfSome (field_of tables tag n) (λ found. IsField structs tag (field_place tables tag n))
  pub procedures : (n : List ℕ) → IfSome (procedure_in tables.procedures n) (λ found. IsCName n × IsCountable (listed found.head.params))

-- each variable has a slot among so many
abbrev pub AreBound : ℕ → List Variable → List Bound → Type 0
AreBound slots [] [] = Unit {0}
AreBound slots (v ∷ vs) (b ∷ bs) = (v.name ≡ b.name) × (b.slot < slots) × AreBound slots vs bs
AreBound slots _ _ = ⊥

pub record IsHere (structs : List StructDef) (c : Context) : Type 0 where
  pub fits : Fits structs c.env.tables
  pub sound : SoundEnv c.env
  pub bound : AreBound c.first_temp (c.env.scopes.here ++ c.env.scopes.around) c.bound
  pub first : c.first_line < 4294967296
  pub line : IsLined c
  pub result : IsTy c.result

pub ty_of : (structs : List StructDef) (tables : Tables) → Fits structs tables → (kind : Ty) → IsSound tables (Some kind) → IsTy kind
ty_of structs tables fits Int h = tt
ty_of structs tables fits (Ptr tag) h = fits.tags tag h
ty_of structs tables fits Void h = tt

-- a sound type is known
pub known_some : (tables : Tables) (kind : Kind) → IsSound tables kind → Some (known kind) ≡ kind
known_some tables None h = absurd h
known_some tables (Some kind) h = refl

pub known_ty : (structs : List StructDef) (tables : Tables) → Fits structs tables → (kind : Kind) → IsSound tables kind → IsTy (known kind)
known_ty structs tables fits None h = absurd h
known_ty structs tables fits (Some kind) h = ty_of structs tables fits kind h

-- VARIABLES

slot_bound : (slots : ℕ) (vs : List Variable) (bs : List Bound) → AreBound slots vs bs → (n : List ℕ)
    → IfSome (variable_in vs n) (λ found. slot_in bs n < slots)
slot_bound slots [] [] h n = tt
slot_bound slots (v ∷ vs) [] h n = absurd h
slot_bound slots [] (b ∷ bs) h n = absurd h
slot_bound slots (v ∷ vs) (b ∷ bs) h n =
    subst (λ name. IfSome (cond (bytes_eq v.name n) (Some v) (variable_in vs n))
    (λ found. cond (bytes_eq name n) b.slot (slot_in bs n) < slots)) h.0
    (by_test (bytes_eq v.name n) (slot_bound slots vs bs h.2 n))
  where
    by_test : (t : Bool) → IfSome (variable_in vs n) (λ found. slot_in bs n < slots)
        → IfSome (cond t (Some v) (variable_in vs n)) (λ found. cond t b.slot (slot_in bs n) < slots)
    by_test true k = h.1
    by_test false k = k

pub slot_there : (structs : List StructDef) (c : Context) → IsHere structs c → (n : Name)
    → IsSound c.env.tables (kind_of_variable (variable c.env n.text))
    → slot_of c n < c.first_temp
slot_there structs c here n h =
    by_found (variable c.env n.text) (slot_bound c.first_temp (c.env.scopes.here ++ c.env.scopes.around) c.bound here.bound n.text) h
  where
    by_found : (found : Option Variable) → IfSome found (λ f. slot_in c.bound n.text < c.first_temp)
        → IsSound c.env.tables (kind_of_variable found) → slot_of c n < c.first_temp
    by_found None k h = absurd h
    by_found (Some found) k h = k

-- EXPRESSIONS

-- the code is good, and of the expression's type
pub record GoodExpr (structs : List StructDef) (c : Context) (own : Kind) (l : Lowering) : Type 0 where
  pub good : GoodLowering structs c l
  pub kind : Some l.kind ≡ own

pub field_there : (structs : List StructDef) (c : Context) → IsHere structs c → (place : Place) (pointer : Ty) (field : Name)
    → IsSound c.env.tables (Some pointer)
    → member_refusals c.env.tables place (Some pointer) field ≡ []
    → IsFieldThere structs (field_behind c pointer field) × (is_pointer pointer ≡ true)
    × IsSound c.env.tables (kind_of_member c.env.tables (Some pointer) field)
field_there structs c here place (Ptr tag) field h e =
    let own = member_sound c.env.tables here.sound.tables place (Some (Ptr tag)) field h e in (
      record {
        there = by_found (field_of c.env.tables tag field.text) (here.fits.fields tag field.text) h (holds _ _ _ e);
        kind = known_ty structs c.env.tables here.fits (kind_of_member c.env.tables (Some (Ptr tag)) field) own;
      },
      refl,
      own,
    )
  where
    clash : (b : Bool) → b ≡ true → not b ≡ true → ⊥
    clash true h e = cc
    clash false h e = cc

    by_found : (found : Option FieldKind) → IfSome found (λ f. IsField structs tag (field_place c.env.tables tag field.text))
        → is_defined c.env.tables tag ≡ true
        → not (lacks c.env.tables tag found) ≡ true → IsField structs tag (field_place c.env.tables tag field.text)
    by_found None k h e = absurd (clash (is_defined c.env.tables tag) h e)
    by_found (Some found) k h e = k
field_there structs c here place Int field h e = absurd (cc)
field_there structs c here place Void field h e = absurd (cc)

members_good : (structs : List StructDef) (c : Context) → IsHere structs c → (place : Place) (base : Lowering) (names : List Name)
    → GoodLowering structs c base
    → IsSound c.env.tables (Some base.kind) → members_refusals c.env.tables place (Some base.kind) names ≡ []
    → GoodExpr structs c (kind_of_members c.env.tables (Some base.kind) names) (members c base names)
members_good structs c here place base [] h s e = record { good = h; kind = refl }
members_good structs c here place base (first ∷ others) h s e =
    let there = field_there structs c here place base.kind first s (nil_left _ _ e) in
    let eq = known_some c.env.tables (kind_of_member c.env.tables (Some base.kind) first) there.2 in
    let next = member c base (field_behind c base.kind first) in
    let behind = members_good structs c here place next others
    (member_good structs c here.line base (field_behind c base.kind first) there.0 h there.1)
    (subst (λ k. IsSound c.env.tables k) (sym eq) there.2)
    (subst (λ k. members_refusals c.env.tables place k others ≡ []) (sym eq) (nil_right _ _ e)) in
    record { good = behind.good; kind = behind.kind ∙ ap (λ k. kind_of_members c.env.tables k others) eq }

-- operators give ints
binary_kind : (tables : Tables) (c : Context) (op : BinaryOp) (left right : Lowering) (l r : Kind) → IsSound tables (kind_of_binary op l r)
    → Some (binary c op left right).kind ≡ kind_of_binary op l r
binary_kind tables c BinaryOp.Or left right l r h = refl
binary_kind tables c BinaryOp.And left right l r h = refl
binary_kind tables c BinaryOp.Equal left right l r h = refl
binary_kind tables c BinaryOp.NotEqual left right l r h = refl
binary_kind tables c BinaryOp.Less left right l r h = refl
binary_kind tables c BinaryOp.LessEqual left right l r h = refl
binary_kind tables c BinaryOp.Greater left right l r h = refl
binary_kind tables c BinaryOp.GreaterEqual left right l r h = refl
binary_kind tables c BinaryOp.Add left right l r h = ints l r h
  where
    ints : (l r : Kind) → IsSound tables (kind_of_binary BinaryOp.Add l r) → Some Int ≡ kind_of_binary BinaryOp.Add l r
    ints (Some Int) (Some Int) h = refl
    ints (Some Int) None h = absurd h
    ints (Some Int) (Some other) h = absurd h
    ints None r h = absurd h
    ints (Some other) r h = absurd h
binary_kind tables c BinaryOp.Subtract left right l r h = ints l r h
  where
    ints : (l r : Kind) → IsSound tables (kind_of_binary BinaryOp.Add l r) → Some Int ≡ kind_of_binary BinaryOp.Add l r
    ints (Some Int) (Some Int) h = refl
    ints (Some Int) None h = absurd h
    ints (Some Int) (Some other) h = absurd h
    ints None r h = absurd h
    ints (Some other) r h = absurd h
binary_kind tables c BinaryOp.Multiply left right l r h = ints l r h
  where
    ints : (l r : Kind) → IsSound tables (kind_of_binary BinaryOp.Add l r) → Some Int ≡ kind_of_binary BinaryOp.Add l r
    ints (Some Int) (Some Int) h = refl
    ints (Some Int) None h = absurd h
    ints (Some Int) (Some other) h = absurd h
    ints None r h = absurd h
    ints (Some other) r h = absurd h

prefix_kind : (tables : Tables) (c : Context) (op : PrefixOp) (inner : Lowering) (k : Kind) → IsSound tables (kind_of_prefix op k)
    → Some (prefix c op inner).kind ≡ kind_of_prefix op k
prefix_kind tables c PrefixOp.Not inner k h = refl
prefix_kind tables c PrefixOp.Negate inner (Some Int) h = refl
prefix_kind tables c PrefixOp.Negate inner (Some other) h = absurd h
prefix_kind tables c PrefixOp.Negate inner None h = absurd h

mutual
  pub lowering_good : (structs : List StructDef) (c : Context) → IsHere structs c → (e : Expr) → expr_refusals c.env e ≡ []
      → GoodExpr structs c (kind_of c.env e) (lowering c e)
  lowering_good structs c here (Expr.Chain first others) e =
      let one = lowering_good structs c here first (nil_left _ _ e) in
      let own = (plain_known c.env here.sound first (nil_left _ _ e)).own in
      chain_good structs c here (place_of_expr first) (is_null first) (kind_of c.env first) (lowering c first) others one own
      (subst (λ (given : Given). links_refusals c.env (place_of_expr first) (kind_of c.env first) given (is_null first) others ≡ [])
      (gives_kind c.env first (nil_left _ _ e)) (nil_right _ _ e))
  lowering_good structs c here (Expr.Prefix place op inner) e =
      let one = lowering_good structs c here inner (nil_left _ _ e) in
      record {
        good = prefix_good structs c here.line op (lowering c inner) one.good;
        kind =
            prefix_kind c.env.tables c op (lowering c inner) (kind_of c.env inner)
            (plain_known c.env here.sound (Expr.Prefix place op inner) e).own;
      }
  lowering_good structs c here (Expr.Members base first others) e =
      let one = lowering_good structs c here base (nil_left _ _ e) in
      let own = (plain_known c.env here.sound base (nil_left _ _ e)).own in
      let all = members_good structs c here (place_of_expr base) (lowering c base) (first ∷ others) one.good
      (subst (λ k. IsSound c.env.tables k) (sym one.kind) own)
      (subst (λ k. members_refusals c.env.tables (place_of_expr base) k (first ∷ others) ≡ []) (sym one.kind) (nil_right _ _ e)) in
      record { good = all.good; kind = all.kind ∙ ap (λ k. kind_of_members c.env.tables k (first ∷ others)) one.kind }
  lowering_good structs c here (Expr.Variable n) e =
      let own = (plain_known c.env here.sound (Expr.Variable n) e).own in
      let there = slot_there structs c here n own in
      record {
        good =
            at_hand_good structs c here.line _ (Slot (slot_of c n))
            (known_ty structs c.env.tables here.fits (kind_of_variable (variable c.env n.text)) own) there (λ _. there);
        kind = known_some c.env.tables (kind_of_variable (variable c.env n.text)) own;
      }
  lowering_good structs c here (Expr.Number place value) e = record {
    good = at_hand_good structs c here.line Int (Num (pos value)) tt tt (λ f. absurd (cc));
    kind = refl;
  }
  lowering_good structs c here (Expr.Null place) e = record {
    good = at_hand_good structs c here.line Int (Num (pos 0)) tt tt (λ f. absurd (cc));
    kind = refl;
  }
  lowering_good structs c here (Expr.Paren place inner) e = lowering_good structs c here inner e
  lowering_good structs c here (Expr.Call callee args) e = absurd (cc)
  lowering_good structs c here (Expr.Malloc place as_type allocated) e = absurd (cc)

  chain_good : (structs : List StructDef) (c : Context) → IsHere structs c
      → (place : Place) (null : Bool) (kind : Kind) (before : Lowering) (others : Links)
      → GoodExpr structs c kind before → IsSound c.env.tables kind → links_refusals c.env place kind (Given.OfKind kind) null others ≡ []
      → GoodExpr structs c (kind_of_chain c.env kind others) (chain c before others)
  chain_good structs c here place null kind before Links.NoLinks h s e = h
  chain_good structs c here place null kind before (Links.Link op operand others) h s e =
      let accepted = nil_left _ _ (nil_left _ _ e) in
      let one = lowering_good structs c here operand accepted in
      let own = (plain_known c.env here.sound operand accepted).own in
      let sound = binary_sound c.env.tables op kind null (kind_of c.env operand) (is_null operand) s own
      (subst (λ (given : Given). may_stand_by op (Given.OfKind kind) null given (is_null operand) ≡ true)
      (gives_kind c.env operand accepted)
      (holds _ _ _ (nil_right (expr_refusals c.env operand) _ (nil_left _ _ e)))) in
      chain_good structs c here place false (kind_of_binary op kind (kind_of c.env operand))
      (binary c op before (lowering c operand)) others
      (record {
        good = binary_good structs c here.line op before (lowering c operand) h.good one.good;
        kind = binary_kind c.env.tables c op before (lowering c operand) kind (kind_of c.env operand) sound;
      })
      sound (nil_right _ _ e)

pub args_good : (structs : List StructDef) (c : Context) → IsHere structs c → (args : Args) → args_refusals c.env args ≡ []
    → AreGoodLowerings structs c (lowerings c args)
args_good structs c here Args.NoArgs e = tt
args_good structs c here (Args.Arg first others) e =
    ((lowering_good structs c here first (nil_left _ _ e)).good, args_good structs c here others (nil_right _ _ e))
