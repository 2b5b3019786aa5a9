-- C names are texts, and so what is well formed can be written.
use Rattle.std.specs.Prelude.{◌≡◌, ◌⊎◌, ℕ, zero, suc, ◌<◌, ◌≤◌, Bool, true, false, ◌==◌, if◌then◌else◌, List, [], ◌∷◌, slice_index, length}
use Rattle.std.specs.Prelude.{is_some, nat_le, All, IsUtf8}
use Rattle.std.specs.Char.{is_ascii_alphabetic, is_ascii_digit}
use Rattle.std.specs.Int.{is_in_range}
use Rattle.std.specs.List.{list_all}
use Rattle.std.specs.Option.{IsSomeAnd}
use Rattle.std.specs.Str.{bytes_eq}
use Rattle.std.specs.declared.option.Option.{Option}
use Rattle.std.specs.declared.option.Option.TheVariants.{None, Some}
use Rattle.std.proofs.Common.{refl, subst, inl, inr, arith, lit<}
use Rattle.std.proofs.lemmas.Bool.{and_parts, eqb-true, leb-true, or_cases}
use Rattle.std.proofs.lemmas.List.Elements.{All-head, All-tail, All-weaker}
use Rattle.std.proofs.lemmas.Slice.Eq.{bytes_eq-Decides}
use Rattle.std.proofs.lemmas.Str.{IsUtf8-from_ascii}
use Rattle.shape_data.specs.declared.program.Cmd.{Cmd}
use Rattle.shape_data.specs.declared.program.Cmd.TheVariants as cmd
use Rattle.shape_data.specs.declared.program.StructDef.{StructDef}
use Rattle.shape_data.specs.declared.program.Ty.{Ty}
use Rattle.shape_data.specs.declared.program.Ty.TheVariants.{Int, Ptr, Void}
use Rattle.shape_data.specs.Heap.{struct_named}
use Rattle.shape_data.specs.Names.{is_name_byte, is_name_start, IsCName}
use Rattle.shape_data.specs.WellFormed.{IsCmd, IsStruct, IsTy}
use Rattle.flow_json.specs.Commands.{CmdIsText}
use Rattle.flow_json.specs.Texts.{FlowsAreTexts, StructsAreTexts}
use Rattle.flow_json.specs.Types.{TyIsText}

range_is_small : (low high byte : ℕ) → high < 128 → is_in_range low high byte ≡ true → byte < 128
range_is_small low high byte small is =
    let top : byte ≤ high = leb-true byte high (and_parts (nat_le low byte) (nat_le byte high) is).1 in
    omega arith

byte_is_small : (byte : ℕ) → is_name_byte byte ≡ true → byte < 128
byte_is_small byte is = by_kind (or_cases (is_name_start byte) (is_ascii_digit byte) is)
  where
    by_letter : (is_in_range 65 90 byte ≡ true) ⊎ (is_in_range 97 122 byte ≡ true) → byte < 128
    by_letter (inl upper) = range_is_small 65 90 byte (lit< tt) upper
    by_letter (inr lower) = range_is_small 97 122 byte (lit< tt) lower

    by_start : (is_ascii_alphabetic byte ≡ true) ⊎ ((byte == 95) ≡ true) → byte < 128
    by_start (inl letter) = by_letter (or_cases (is_in_range 65 90 byte) (is_in_range 97 122 byte) letter)
    by_start (inr underscore) = let same : byte ≡ 95 = eqb-true byte 95 underscore in omega arith

    by_kind : (is_name_start byte ≡ true) ⊎ (is_ascii_digit byte ≡ true) → byte < 128
    by_kind (inl start) = by_start (or_cases (is_ascii_alphabetic byte) (byte == 95) start)
    by_kind (inr digit) = range_is_small 48 57 byte (lit< tt) digit

bytes_are_ascii : (bytes : List ℕ) → list_all is_name_byte bytes ≡ true → (i : ℕ) → slice_index bytes i < 128
bytes_are_ascii [] all i = lit< tt
bytes_are_ascii (byte ∷ bytes) all zero = byte_is_small byte (and_parts (is_name_byte byte) (list_all is_name_byte bytes) all).0
bytes_are_ascii (byte ∷ bytes) all (suc i) = bytes_are_ascii bytes (and_parts (is_name_byte byte) (list_all is_name_byte bytes) all).1 i

pub name_is_text : (name : List ℕ) → IsCName name → IsUtf8 name
name_is_text name is = IsUtf8-from_ascii name (bytes_are_ascii name is.each)

ty_is_text : (ty : Ty) → IsTy ty → TyIsText ty
ty_is_text Int is = tt
ty_is_text (Ptr name) is = name_is_text name is
ty_is_text Void is = tt

pub struct_is_text : StructsAreTexts
struct_is_text def is = (
  name_is_text def.name is.name,
  λ place other within. (name_is_text _ (is.field_names place other within), ty_is_text _ (is.types place other within)),
)

-- what is found by a name has it
kind_is_text : (structs : List StructDef) → All IsStruct structs → (kind : List ℕ) (P : StructDef → Type 0)
    → IsSomeAnd (struct_named structs kind) P → IsUtf8 kind
kind_is_text [] each kind P found = absurd found
kind_is_text (def ∷ structs) each kind P found =
    by_name (bytes_eq def.name kind) refl found (kind_is_text structs (All-tail IsStruct def structs each) kind P)
  where
    by_name : (b : Bool) → bytes_eq def.name kind ≡ b → IsSomeAnd (if b then Some def else struct_named structs kind) P
        → (IsSomeAnd (struct_named structs kind) P → IsUtf8 kind) → IsUtf8 kind
    by_name true same found further =
        subst IsUtf8 ((bytes_eq-Decides def.name kind).0 same) (name_is_text def.name (All-head IsStruct def structs each).name)
    by_name false other found further = further found

some_and : (found : Option StructDef) → is_some found ≡ true → IsSomeAnd found (λ def. Unit {0})
some_and None is = cc
some_and (Some def) is = tt

module _ (structs : List StructDef) (each : All IsStruct structs) where
  cmd_is_text : (slots nodes : ℕ) (command : Cmd) → IsCmd structs slots nodes command → CmdIsText command
  cmd_is_text slots nodes (cmd.Copy to from next) is = tt
  cmd_is_text slots nodes (cmd.Arith to op left right next) is = tt
  cmd_is_text slots nodes (cmd.Any to ty next) is = ty_is_text ty is.2
  cmd_is_text slots nodes (cmd.Load to base kind field next) is = kind_is_text structs each kind (λ def. field < length def.fields) is.2
  cmd_is_text slots nodes (cmd.Store base kind field from next) is = kind_is_text structs each kind (λ def. field < length def.fields) is.1
  cmd_is_text slots nodes (cmd.New to kind next) is =
      kind_is_text structs each kind (λ def. Unit {0}) (some_and (struct_named structs kind) is.1)
  cmd_is_text slots nodes (cmd.Free base kind next) is =
      kind_is_text structs each kind (λ def. Unit {0}) (some_and (struct_named structs kind) is.1)
  cmd_is_text slots nodes (cmd.Call to callee args next) is = name_is_text callee is.4
  cmd_is_text slots nodes (cmd.Branch op pointers left right on_true on_false) is = tt
  cmd_is_text slots nodes (cmd.Return value) is = tt

pub flow_is_text : FlowsAreTexts
flow_is_text structs flow are is = record {
  name = name_is_text flow.name is.name;
  params = All-weaker IsCName IsUtf8 name_is_text flow.params is.params.names;
  slots = All-weaker IsTy TyIsText ty_is_text flow.slots is.types;
  ret = ty_is_text flow.ret is.ret;
  nodes = λ place other within. cmd_is_text structs are.each _ _ _ (is.nodes place other within).command;
}
