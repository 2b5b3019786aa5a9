-- Files each of which has a tree, and files that are refused.
use Rattle.std.proofs.Common.{◌≡◌, ℕ, zero, suc, ◌+◌, ◌<◌, Bool, true, false, List, [], ◌∷◌, ◌++◌, length, get_or, set, Option, Some, None}
use Rattle.std.proofs.Common.{Result, Ok, Err, OnOk, refl, sym, ap, ap₂, ◌∙◌, subst, arith}
use Rattle.std.specs.List.{AllZip}
use Rattle.std.specs.Option.{option_map, option_or}
use Rattle.std.specs.Prelude.{map, All, IfOk, IfErr, IfSome, is_some, ◌↔◌}
use Rattle.std.proofs.lemmas.List.Elements.{All-nil, All-cons}
use Rattle.shape_data.specs.declared.program.Program.{Program}
use Rattle.c_grammar.specs.declared.tokens.places.Refusal.{Refusal}
use Rattle.c_tree.specs.declared.items.Unit.{Unit as UnitValue}
use Rattle.c_tree.specs.Syntax.{unit_tree}
use Rattle.c_front.specs.Units.{IsUnitOf}
use Rattle.c_lower_rules.specs.Programs.{program_of}
use Rattle.c_types_rules.specs.declared.at.At.{At}
use Rattle.project_form.specs.declared.fault.ProgramFault.{ProgramFault}
use Rattle.project_form.specs.declared.fault.ProgramFault.TheVariants as fault
use Rattle.project_form.specs.declared.fault.Refused.{Refused}
use Rattle.project_form.specs.declared.reading.Firsts.{Firsts}
use Rattle.project_form.specs.Kept.{KeptFile, AreAllKept, AreKeptWhereRead, Follows, HasUnit, sources_of}
use Rattle.project_form.specs.Parts.{AreNoted, AreUnits, IsFirstFault, IsNoted, IsProgramFault, IsReadAs, IsRefused, IsWhole}
use Rattle.project_form.specs.Parts.{KeepsWhatIsRead, or_refused}
use Rattle.project_form.specs.Reads.{Reading, NoTokens, NoFile, Tree, IsRead, AreReadings, Reads, first_refused, names_of, refusal_of}
use Rattle.project_form.specs.Reads.{refused_at, refused_in, syntax_refusal, token_refusal, trees_of, unless_refused, whole_refusal}
use Rattle.project_form.proofs.Readings.{tree-HasUnit}

-- ALL HAVE TREES

abbrev tree_reading : UnitValue → Reading
tree_reading unit = Tree (unit_tree unit)

trees-read : (files : List KeptFile) (units : List UnitValue) → AreUnits files units
    → AreReadings (sources_of files) (map tree_reading units)
trees-read [] [] are = tt
trees-read [] (unit ∷ units) are = absurd are
trees-read (kept ∷ files) [] are = absurd are
trees-read (kept ∷ files) (unit ∷ units) are = (are.0, trees-read files units are.1)

tokens-none : (files : List KeptFile) (units : List UnitValue)
    → first_refused token_refusal (sources_of files) (map tree_reading units) ≡ None
tokens-none [] units = refl
tokens-none (kept ∷ files) [] = refl
tokens-none (kept ∷ files) (unit ∷ units) = tokens-none files units

syntax-none : (files : List KeptFile) (units : List UnitValue)
    → first_refused syntax_refusal (sources_of files) (map tree_reading units) ≡ None
syntax-none [] units = refl
syntax-none (kept ∷ files) [] = refl
syntax-none (kept ∷ files) (unit ∷ units) = syntax-none files units

trees-of : (units : List UnitValue) → trees_of (map tree_reading units) ≡ map unit_tree units
trees-of [] = refl
trees-of (unit ∷ units) = ap (λ ts. unit_tree unit ∷ ts) (trees-of units)

-- where each text is a file, the answer is that of all files together
pub whole-answer : (files : List KeptFile) (units : List UnitValue) → AreUnits files units
    → (answer : Result Program Refused)
    → answer ≡ unless_refused (whole_refusal (names_of (sources_of files)) (map unit_tree units))
    (program_of (names_of (sources_of files)) (map unit_tree units))
    → Reads (sources_of files) answer
whole-answer files units are answer is = record {
  readings = map tree_reading units;
  read = trees-read files units are;
  means = is ∙ sym (rw (tokens-none files units, syntax-none files units, trees-of units) refl);
}

pub whole-program : (files : List KeptFile) (units : List UnitValue) (program : Program) → AreUnits files units
    → IsWhole (names_of (sources_of files)) (map unit_tree units) program → Reads (sources_of files) (Ok program)
whole-program files units program are whole =
    let accepted = whole.accepted in
    whole-answer files units are (Ok program) (rw accepted (ap Ok whole.means))

pub whole-refused : (files : List KeptFile) (units : List UnitValue) (refused : Refused) → AreUnits files units
    → whole_refusal (names_of (sources_of files)) (map unit_tree units) ≡ Some refused → Reads (sources_of files) (Err refused)
whole-refused files units refused are found = whole-answer files units are (Err refused) (rw found refl)

-- SOME ARE REFUSED

-- the readings of files with marks are those of the files
pub unmarked : (files : List KeptFile) (readings : List Reading) → AllZip IsReadAs files readings → AreReadings (sources_of files) readings
unmarked [] [] are = tt
unmarked [] (r ∷ rs) are = absurd are
unmarked (kept ∷ files) [] are = absurd are
unmarked (kept ∷ files) (r ∷ rs) are = (are.0.is_read, unmarked files rs are.1)

first_of_three : {A : Type 0} (one other third : Option A) (x : A) → option_or one other ≡ Some x
    → option_or one (option_or other third) ≡ Some x
first_of_three None None third x is = cc
first_of_three None (Some y) third x is = is
first_of_three (Some y) other third x is = is

pub noted-refused : (files : List KeptFile) (firsts : Firsts) (refused : Refused) → AreNoted files firsts
    → option_or firsts.tokens firsts.syntax ≡ Some refused → Reads (sources_of files) (Err refused)
noted-refused files firsts refused noted is =
    let both : option_or (first_refused token_refusal (sources_of files) noted.readings)
    (first_refused syntax_refusal (sources_of files) noted.readings) ≡ Some refused =
    rw (← noted.tokens, ← noted.syntax) is in
    let found : refusal_of (sources_of files) noted.readings
    ≡ Some refused =
    first_of_three (first_refused token_refusal (sources_of files) noted.readings)
    (first_refused syntax_refusal (sources_of files) noted.readings)
    (whole_refusal (names_of (sources_of files)) (trees_of noted.readings)) refused both in
    record { readings = noted.readings; read = unmarked files noted.readings noted.are; means = sym (rw found refl) }

kept-where-read : (files : List KeptFile) (readings : List Reading) → AllZip IsReadAs files readings → AreKeptWhereRead files
kept-where-read [] [] are = All-nil (λ (kept : KeptFile). (kept.is_kept ≡ true) ↔ HasUnit kept.file.bytes)
kept-where-read [] (r ∷ rs) are = absurd are
kept-where-read (kept ∷ files) [] are = absurd are
kept-where-read (kept ∷ files) (r ∷ rs) are =
    let tree = tree-HasUnit kept.file.bytes r are.0.is_read in
    All-cons (λ (kept : KeptFile). (kept.is_kept ≡ true) ↔ HasUnit kept.file.bytes) kept files
    ((λ yes. tree.0 (sym are.0.is_kept ∙ yes)), (λ has. are.0.is_kept ∙ tree.1 has))
    (kept-where-read files rs are.1)

pub noted-kept : (files : List KeptFile) (firsts : Firsts) → AreNoted files firsts → AreKeptWhereRead files
noted-kept files firsts noted = kept-where-read files noted.readings noted.are

-- NONE IS REFUSED

neither : {A : Type 0} (one other : Option A) → option_or one other ≡ None → (one ≡ None) × (other ≡ None)
neither None other is = (refl, is)
neither (Some x) other is = cc

all-kept : (files : List KeptFile) (readings : List Reading) → AllZip IsReadAs files readings
    → first_refused token_refusal (sources_of files) readings ≡ None → first_refused syntax_refusal (sources_of files) readings ≡ None
    → AreAllKept files
all-kept [] [] are none nor = All-nil (λ (kept : KeptFile). kept.is_kept ≡ true)
all-kept [] (r ∷ rs) are none nor = absurd are
all-kept (kept ∷ files) [] are none nor = absurd are
all-kept (kept ∷ files) (NoTokens r ∷ rs) are none nor = cc
all-kept (kept ∷ files) (NoFile r ∷ rs) are none nor = cc
all-kept (kept ∷ files) (Tree file ∷ rs) are none nor =
    All-cons (λ (kept : KeptFile). kept.is_kept ≡ true) kept files are.0.is_kept (all-kept files rs are.1 none nor)

pub noted-all_kept : (files : List KeptFile) (firsts : Firsts) → AreNoted files firsts → option_or firsts.tokens firsts.syntax ≡ None
    → AreAllKept files
noted-all_kept files firsts noted is =
    let none = neither firsts.tokens firsts.syntax is in
    all-kept files noted.readings noted.are (sym noted.tokens ∙ none.0) (sym noted.syntax ∙ none.1)

-- ONE FILE MORE

or_assoc : {A : Type 0} (one other third : Option A) → option_or (option_or one other) third ≡ option_or one (option_or other third)
or_assoc None other third = refl
or_assoc (Some x) other third = refl

or_none : {A : Type 0} (one : Option A) → option_or one None ≡ one
or_none None = refl
or_none (Some x) = refl

one_more : (stage : Reading → Option Refusal) (files : List KeptFile) (readings : List Reading) (kept : KeptFile) (reading : Reading)
    → AllZip IsReadAs files readings
    → first_refused stage (sources_of (files ++ kept ∷ [])) (readings ++ reading ∷ [])
    ≡ or_refused kept.file.name (stage reading) (first_refused stage (sources_of files) readings)
one_more stage [] [] kept reading are = or_none (option_map (refused_in kept.file.name) (stage reading))
one_more stage [] (r ∷ rs) kept reading are = absurd are
one_more stage (file ∷ files) [] kept reading are = absurd are
one_more stage (file ∷ files) (r ∷ rs) kept reading are =
    ap (option_or (option_map (refused_in file.file.name) (stage r))) (one_more stage files rs kept reading are.1)
    ∙ sym (or_assoc (option_map (refused_in file.file.name) (stage r)) (first_refused stage (sources_of files) rs)
    (option_map (refused_in kept.file.name) (stage reading)))

zip_more : {A B : Type 0} (R : A → B → Type 0) (xs : List A) (ys : List B) (x : A) (y : B) → AllZip R xs ys → R x y
    → AllZip R (xs ++ x ∷ []) (ys ++ y ∷ [])
zip_more R [] [] x y are is = (is, tt)
zip_more R [] (b ∷ ys) x y are is = absurd are
zip_more R (a ∷ xs) [] x y are is = absurd are
zip_more R (a ∷ xs) (b ∷ ys) x y are is = (are.0, zip_more R xs ys x y are.1 is)

pub noted-more : (files : List KeptFile) (kept : KeptFile) (old new : Firsts) → AreNoted files old → IsNoted kept old new
    → AreNoted (files ++ kept ∷ []) new
noted-more files kept old new are is = record {
  readings = are.readings ++ is.reading ∷ [];
  are = zip_more IsReadAs files are.readings kept is.reading are.are is.is;
  tokens = is.tokens ∙ ap (or_refused kept.file.name (token_refusal is.reading)) are.tokens
      ∙ sym (one_more token_refusal files are.readings kept is.reading are.are);
  syntax = is.syntax ∙ ap (or_refused kept.file.name (syntax_refusal is.reading)) are.syntax
      ∙ sym (one_more syntax_refusal files are.readings kept is.reading are.are);
}

pub units-more : (files : List KeptFile) (units : List UnitValue) (kept : KeptFile) (unit : UnitValue) → AreUnits files units
    → IsUnitOf kept.file.bytes (unit_tree unit)
    → AreUnits (files ++ kept ∷ []) (units ++ unit ∷ [])
units-more files units kept unit are is =
    zip_more (λ (kept : KeptFile) unit. IsUnitOf kept.file.bytes (unit_tree unit)) files units kept unit are is

-- a tree that is kept is one of the bytes
pub kept-HasUnit : (bytes : List ℕ) (unit : Option UnitValue) → is_some unit ≡ true → IfSome unit (λ unit. IsUnitOf bytes (unit_tree unit))
    → HasUnit bytes
kept-HasUnit bytes (Some unit) told is = (unit_tree unit, is)
kept-HasUnit bytes None told is = cc

-- FAULTS

pub refused-first : (names : List (List ℕ)) (at : At) (first : Option At) (e : ProgramFault) → first ≡ Some at
    → IsRefused (refused_at names at) e
    → IsFirstFault (option_map (refused_at names) first) e
refused-first names at first (fault.Refused found) is told = ap (option_map (refused_at names)) is ∙ ap Some (sym told)
refused-first names at first fault.OutOfMemory is told = tt

pub first-fault : (one other : Option Refused) (e : ProgramFault) → IsFirstFault one e → IsFirstFault (option_or one other) e
first-fault one other (fault.Refused found) is = ap (λ (o : Option Refused). option_or o other) is
first-fault one other fault.OutOfMemory is = tt

pub later-fault : (one other : Option Refused) (e : ProgramFault) → one ≡ None → IsFirstFault other e → IsFirstFault (option_or one other) e
later-fault one other e none is = subst (λ (o : Option Refused). IsFirstFault (option_or o other) e) (sym none) is

pub whole-fault : (files : List KeptFile) (units : List UnitValue) → AreUnits files units → (e : ProgramFault)
    → IsFirstFault (whole_refusal (names_of (sources_of files)) (map unit_tree units)) e → IsProgramFault (sources_of files) e
whole-fault files units are (fault.Refused found) is = whole-refused files units found are is
whole-fault files units are fault.OutOfMemory is = tt

-- behind a refusal the parses are kept of those files that have one
pub keeps-read : {A : Type 0} (r : Result A ProgramFault) (files : List KeptFile) → AreKeptWhereRead files → IfErr r (KeepsWhatIsRead files)
keeps-read (Ok x) files are = tt
keeps-read (Err (fault.Refused found)) files are = are
keeps-read (Err fault.OutOfMemory) files are = tt

-- WHAT BECOMES OF THE FILES

follows-itself : (kept : KeptFile) → Follows kept kept
follows-itself kept = record { file = refl; kept = λ yes. yes }

pub follow-themselves : (files : List KeptFile) → AllZip Follows files files
follow-themselves [] = tt
follow-themselves (kept ∷ files) = (follows-itself kept, follow-themselves files)

-- one of the files is read
pub follow-set : (olds news : List KeptFile) (place : ℕ) (d one : KeptFile) → place < length news → AllZip Follows olds news
    → Follows (get_or news place d) one
    → AllZip Follows olds (set news place one)
follow-set [] [] place d one inside are is = absurd (omega arith)
follow-set [] (new ∷ news) place d one inside are is = absurd are
follow-set (old ∷ olds) [] place d one inside are is = absurd are
follow-set (old ∷ olds) (new ∷ news) zero d one inside are is =
    (record { file = is.file ∙ are.0.file; kept = λ yes. is.kept (are.0.kept yes) }, are.1)
follow-set (old ∷ olds) (new ∷ news) (suc place) d one inside are is = (are.0, follow-set olds news place d one (omega arith) are.1 is)

-- the files stay, without their marks
pub follow-sources : (olds news : List KeptFile) → AllZip Follows olds news → sources_of news ≡ sources_of olds
follow-sources [] [] are = refl
follow-sources [] (new ∷ news) are = absurd are
follow-sources (old ∷ olds) [] are = absurd are
follow-sources (old ∷ olds) (new ∷ news) are = ap₂ (λ f fs. f ∷ fs) are.0.file (follow-sources olds news are.1)

-- ONE FILE IS READ

pub noted-tree : (old new : KeptFile) (firsts : Firsts) → HasUnit old.file.bytes → new ≡ record old { is_kept = true }
    → IsNoted new firsts firsts
noted-tree old new firsts has is =
    subst (λ (kept : KeptFile). IsNoted kept firsts firsts) (sym is) (record {
      reading = Tree has.0;
      is = record { is_read = has.1; is_kept = refl };
      tokens = sym (or_none firsts.tokens);
      syntax = sym (or_none firsts.syntax);
    })

pub noted-tokens : {A E : Type 0} (r : Result A E) (old new : KeptFile) (name : List ℕ) (refusal : Refusal) (firsts : Firsts)
    (first : Option Refused)
    → new ≡ old → old.is_kept ≡ false → IsRead old.file.bytes (NoTokens refusal) → name ≡ old.file.name
    → OnOk r (first ≡ or_refused name (Some refusal) firsts.tokens)
    → OnOk r (IsNoted new firsts (record { tokens = first; syntax = firsts.syntax }))
noted-tokens (Ok x) old new name refusal firsts first same lost is named told =
    subst (λ (kept : KeptFile). IsNoted kept firsts (record { tokens = first; syntax = firsts.syntax })) (sym same) (record {
      reading = NoTokens refusal;
      is = record { is_read = is; is_kept = lost };
      tokens = told ∙ ap (λ (n : List ℕ). or_refused n (Some refusal) firsts.tokens) named;
      syntax = sym (or_none firsts.syntax);
    })
noted-tokens (Err e) old new name refusal firsts first same lost is named told = tt

pub noted-syntax : {A E : Type 0} (r : Result A E) (old new : KeptFile) (name : List ℕ) (refusal : Refusal) (firsts : Firsts)
    (first : Option Refused)
    → new ≡ old → old.is_kept ≡ false → IsRead old.file.bytes (NoFile refusal) → name ≡ old.file.name
    → OnOk r (first ≡ or_refused name (Some refusal) firsts.syntax)
    → OnOk r (IsNoted new firsts (record { tokens = firsts.tokens; syntax = first }))
noted-syntax (Ok x) old new name refusal firsts first same lost is named told =
    subst (λ (kept : KeptFile). IsNoted kept firsts (record { tokens = firsts.tokens; syntax = first })) (sym same) (record {
      reading = NoFile refusal;
      is = record { is_read = is; is_kept = lost };
      tokens = sym (or_none firsts.tokens);
      syntax = told ∙ ap (λ (n : List ℕ). or_refused n (Some refusal) firsts.syntax) named;
    })
noted-syntax (Err e) old new name refusal firsts first same lost is named told = tt

-- ALL ARE READ

pub units-long : (files : List KeptFile) (units : List UnitValue) → AreUnits files units → length units ≡ length files
units-long [] [] are = refl
units-long [] (unit ∷ units) are = absurd are
units-long (kept ∷ files) [] are = absurd are
units-long (kept ∷ files) (unit ∷ units) are = ap suc (units-long files units are.1)

pub program-reads : (r : Result Program ProgramFault) (files : List KeptFile) (units us : List UnitValue) (ns : List (List ℕ))
    → ns ≡ names_of (sources_of files) → us ≡ units
    → AreUnits files units → IfOk r (λ program. IsWhole ns (map unit_tree us) program)
    → IfOk r (λ program. Reads (sources_of files) (Ok program))
program-reads (Ok program) files units us ns names same are is =
    whole-program files units program are
    (subst (λ (n : List (List ℕ)). IsWhole n (map unit_tree units) program) names
    (subst (λ (u : List UnitValue). IsWhole ns (map unit_tree u) program) same is))
program-reads (Err e) files units us ns names same are is = tt

pub fault-reads : (r : Result Program ProgramFault) (files : List KeptFile) (units us : List UnitValue) (ns : List (List ℕ))
    → ns ≡ names_of (sources_of files) → us ≡ units
    → AreUnits files units → IfErr r (λ e. IsFirstFault (whole_refusal ns (map unit_tree us)) e)
    → IfErr r (λ e. IsProgramFault (sources_of files) e)
fault-reads (Ok program) files units us ns names same are is = tt
fault-reads (Err e) files units us ns names same are is =
    whole-fault files units are e
    (subst (λ (n : List (List ℕ)). IsFirstFault (whole_refusal n (map unit_tree units)) e) names
    (subst (λ (u : List UnitValue). IsFirstFault (whole_refusal ns (map unit_tree u)) e) same is))

pub ok_any : {A E : Type 0} (r : Result A E) (P : Type 0) → P → OnOk r P
ok_any (Ok x) P is = is
ok_any (Err e) P is = tt
