-- Types and structures are read as they were written, and only so.
use Rattle.std.specs.Prelude.{◌≡◌, ℕ, if◌then◌else◌, codes, List, [], ◌∷◌, All}
use Rattle.std.specs.Str.{bytes_eq}
use Rattle.std.specs.declared.option.Option.{Option}
use Rattle.std.specs.declared.option.Option.TheVariants.{None, Some}
use Rattle.std.proofs.Common.{refl, sym, ap, ◌∙◌, subst}
use Rattle.serde_json.specs.Data.{Data, null, boolean, number, string, array, object}
use Rattle.serde_json.specs.Find.{as_str}
use Rattle.shape_data.specs.declared.program.Field.{Field}
use Rattle.shape_data.specs.declared.program.StructDef.{StructDef}
use Rattle.shape_data.specs.declared.program.Ty.{Ty}
use Rattle.shape_data.specs.declared.program.Ty.TheVariants.{Int, Ptr, Void}
use Rattle.flow_json.specs.Forms.{as_list, go_on, list_data, read_list, read_name, tuple}
use Rattle.flow_json.specs.Laws.{FieldFits, IsInverse, StructFits, TyFits}
use Rattle.flow_json.specs.Types.{field_data, field_parts, pointer_of, pointer_parts, read_field, read_struct, read_ty, struct_data}
use Rattle.flow_json.specs.Types.{struct_parts, ty_data, ty_of_word}
use Rattle.flow_json.proofs.InverseLemmas.{cons_is, last_is, go_on_is, go_on_some, list_inverse, list_only, name_inverse, on_word, some_is}
use Rattle.flow_json.proofs.InverseLemmas.{string_only}

-- a field, and a structure, of its parts
abbrev field_of : List ℕ → Ty → Field
field_of name ty = record { name = name; ty = ty }

abbrev def_of : List ℕ → List Field → StructDef
def_of name fields = record { name = name; fields = fields }

-- a thing read from a list of parts
pub of_parts : {A : Type 0} (Fits : A → Type 0) (write : A → Data) (parts : List Data → Option A) →
    ((ds : List Data) (thing : A) → parts ds ≡ Some thing → (write thing ≡ tuple ds) × Fits thing) →
    (d : Data) (thing : A) → go_on (as_list d) parts ≡ Some thing → (write thing ≡ d) × Fits thing
of_parts Fits write parts only d thing is =
    let ds = go_on_some (as_list d) parts thing is in
    let one = only ds.0 thing ds.2 in
    (one.0 ∙ list_only d ds.0 ds.1, one.1)

ty_word : (word : List ℕ) (thing : Ty) → ty_of_word word ≡ Some thing → ty_data thing ≡ string word
ty_word word thing is =
    on_word (ty_data thing ≡ string word) word (codes "int") (Some Int) (if bytes_eq word (codes "void") then Some Void else None) thing is
    (λ same it. subst (λ one. ty_data one ≡ string word) (some_is Int thing it) (ap string (sym same))) (λ is.
    on_word (ty_data thing ≡ string word) word (codes "void") (Some Void) None thing is
    (λ same it. subst (λ one. ty_data one ≡ string word) (some_is Void thing it) (ap string (sym same))) (λ is.
    cc))

pointer_only : (ds : List Data) (ty : Ty) → pointer_parts ds ≡ Some ty → (ty_data ty ≡ tuple ds) × TyFits ty
pointer_only (tag ∷ name ∷ []) ty is =
    let w = go_on_some (as_str tag) (pointer_of name) ty is in
    on_word ((ty_data ty ≡ tuple (tag ∷ name ∷ [])) × TyFits ty) w.0 (codes "ptr")
    (go_on (read_name name) (λ name. Some (Ptr name))) None ty w.2
    (λ same it.
    let n = go_on_some (read_name name) (λ name. Some (Ptr name)) ty it in
    let one = name_inverse.only name n.0 n.1 in
    subst (λ ty. (ty_data ty ≡ tuple (tag ∷ name ∷ [])) × TyFits ty) (some_is (Ptr n.0) ty n.2)
    (ap tuple (cons_is (ap string (sym same) ∙ string_only tag w.0 w.1) (last_is one.0)), one.1))
    (λ is. cc)
pointer_only _ ty is = cc

ty_back : (ty : Ty) → TyFits ty → read_ty (ty_data ty) ≡ Some ty
ty_back Int fits = refl
ty_back (Ptr name) fits = go_on_is _ _ _ _ refl (go_on_is _ _ (codes "ptr") _ refl (go_on_is _ _ name _ (name_inverse.back name fits) refl))
ty_back Void fits = refl

word_fits : (s : List ℕ) (ty : Ty) → ty_data ty ≡ string s → TyFits ty
word_fits s Int is = tt
word_fits s (Ptr name) is = cc
word_fits s Void is = tt

ty_only : (d : Data) (ty : Ty) → read_ty d ≡ Some ty → (ty_data ty ≡ d) × TyFits ty
unfolding go_on
ty_only null ty is = cc
ty_only (boolean b) ty is = cc
ty_only (number n) ty is = cc
ty_only (string s) ty is = (ty_word s ty is, word_fits s ty (ty_word s ty is))
ty_only (array ds) ty is = of_parts TyFits ty_data pointer_parts pointer_only (array ds) ty is
ty_only (object ms) ty is = cc

pub ty_inverse : IsInverse TyFits ty_data read_ty
ty_inverse = record { back = ty_back; only = ty_only }

field_parts_back : (name : List ℕ) (ty : Ty) → FieldFits (field_of name ty) →
    field_parts (string name ∷ ty_data ty ∷ []) ≡ Some (field_of name ty)
field_parts_back name ty fits =
    go_on_is _ _ name _ (name_inverse.back name fits.0) (go_on_is _ _ ty _ (ty_inverse.back ty fits.1) refl)

field_parts_only : (ds : List Data) (thing : Field) → field_parts ds ≡ Some thing → (field_data thing ≡ tuple (ds)) × FieldFits thing
field_parts_only (name ∷ ty ∷ []) thing is =
    let r0 = go_on_some (read_name name) (λ name'. go_on (read_ty ty) (λ ty'. Some (field_of name' ty'))) thing is in
    let e0 = name_inverse.only name r0.0 r0.1 in
    let r1 = go_on_some (read_ty ty) (λ ty'. Some (field_of r0.0 ty')) thing r0.2 in
    let e1 = ty_inverse.only ty r1.0 r1.1 in
    let same : field_of r0.0 r1.0 ≡ thing = some_is _ thing r1.2 in
    subst (λ one. (field_data one ≡ tuple (name ∷ ty ∷ [])) × FieldFits one) same (ap tuple (cons_is e0.0 (last_is e1.0)), (e0.1, e1.1))
field_parts_only _ thing is = cc

pub field_inverse : IsInverse FieldFits field_data read_field
field_inverse =
    record {
      back = λ field fits. go_on_is _ _ _ _ refl (field_parts_back field.name field.ty fits);
      only = of_parts FieldFits field_data field_parts field_parts_only;
    }

pub fields_inverse : IsInverse (All FieldFits) (list_data field_data) (read_list read_field)
fields_inverse = list_inverse FieldFits field_data read_field field_inverse

struct_parts_back : (name : List ℕ) (fields : List Field) → StructFits (def_of name fields) →
    struct_parts (string name ∷ (list_data field_data) fields ∷ []) ≡ Some (def_of name fields)
struct_parts_back name fields fits =
    go_on_is _ _ name _ (name_inverse.back name fits.0) (go_on_is _ _ fields _ (fields_inverse.back fields fits.1) refl)

struct_parts_only : (ds : List Data) (thing : StructDef) → struct_parts ds ≡ Some thing →
    (struct_data thing ≡ tuple (ds)) × StructFits thing
struct_parts_only (name ∷ fields ∷ []) thing is =
    let r0 = go_on_some (read_name name) (λ name'. go_on (read_list read_field fields) (λ fields'. Some (def_of name' fields'))) thing is in
    let e0 = name_inverse.only name r0.0 r0.1 in
    let r1 = go_on_some (read_list read_field fields) (λ fields'. Some (def_of r0.0 fields')) thing r0.2 in
    let e1 = fields_inverse.only fields r1.0 r1.1 in
    let same : def_of r0.0 r1.0 ≡ thing = some_is _ thing r1.2 in
    subst (λ one. (struct_data one ≡ tuple (name ∷ fields ∷ [])) × StructFits one) same
    (ap tuple (cons_is e0.0 (last_is e1.0)), (e0.1, e1.1))
struct_parts_only _ thing is = cc

pub struct_inverse : IsInverse StructFits struct_data read_struct
struct_inverse =
    record {
      back = λ def fits. go_on_is _ _ _ _ refl (struct_parts_back def.name def.fields fits);
      only = of_parts StructFits struct_data struct_parts struct_parts_only;
    }
