-- One step beside a frame: it is the step without the frame, or a fault there, or puts a new cell into the frame.
use Rattle.std.specs.Prelude.{◌≡◌, ◌⊎◌, ℕ, ◌+◌, ℤ, pos, ◌<ℤ◌, int_lt, Bool, true, false, ◌&&◌, List, [], ◌∷◌, length, map, slice_get}
use Rattle.std.specs.Prelude.{slice_index_or, is_none, IsSome}
use Rattle.std.specs.Option.{IsSomeAnd}
use Rattle.std.specs.Ordering.{int_eq}
use Rattle.std.specs.Str.{bytes_eq}
use Rattle.std.specs.declared.option.Option.{Option}
use Rattle.std.specs.declared.option.Option.TheVariants.{None, Some}
use Rattle.std.proofs.Common.{refl, ◌∙◌, arith, inl, inr}
use Rattle.std.proofs.lemmas.Int.{ints}
use Rattle.shape_data.specs.declared.machine.Cell.{Cell}
use Rattle.shape_data.specs.declared.machine.Choice.{Choice}
use Rattle.shape_data.specs.declared.machine.Choice.TheVariants as choice
use Rattle.shape_data.specs.declared.machine.Config.{Config}
use Rattle.shape_data.specs.declared.machine.Frame.{Frame}
use Rattle.shape_data.specs.declared.machine.Stepped.{Stepped}
use Rattle.shape_data.specs.declared.machine.Stepped.TheVariants as stepped
use Rattle.shape_data.specs.declared.program.Cmd.{Cmd}
use Rattle.shape_data.specs.declared.program.Cmd.TheVariants as cmd
use Rattle.shape_data.specs.declared.program.Field.{Field}
use Rattle.shape_data.specs.declared.program.Node.{Node}
use Rattle.shape_data.specs.declared.program.Proc.{Proc}
use Rattle.shape_data.specs.declared.program.Program.{Program}
use Rattle.shape_data.specs.declared.program.StructDef.{StructDef}
use Rattle.shape_data.specs.declared.program.Ty.{Ty}
use Rattle.shape_data.specs.Heap.{cell_at, put, without, with_field, struct_named, first_of_two, HasShape, IsSum}
use Rattle.shape_data.specs.Machine.{operand_value, is_of_type, are_of_fields, top_of, below_top, proc_named_from, go_to, go_with, in_cell}
use Rattle.shape_data.specs.Machine.{at_cell, any_step, fit_struct, can_be_new, new_step, freed, free_step, called, returned, step_cmd}
use Rattle.shape_data.specs.Machine.{step_at, step_in, step_top, step}
use Rattle.sym_parts.specs.Shapes.Frame.{IsOutside}
use Rattle.sym_parts.proofs.ShapesLemmas.Changes.{IsSum-cell_outside, IsSum-put, IsSum-without, IsSum-with_field}
use Rattle.sym_parts.proofs.ShapesLemmas.Sums.{IsSum-cell_left}

-- the second step is the first one with the frame beside its heap; of a fault nothing is said
abbrev pub CarriesStep : List StructDef → List Cell → Stepped → Stepped → Type 0
CarriesStep structs frame (stepped.On small) large =
    (heap : List Cell) × (large ≡ stepped.On (record { stack = small.stack; heap = heap })) × IsSum structs heap small.heap frame
CarriesStep structs frame (stepped.Returned value own) large =
    (heap : List Cell) × (large ≡ stepped.Returned value heap) × IsSum structs heap own frame
CarriesStep structs frame (stepped.Fault line cause) large = Unit {0}
CarriesStep structs frame stepped.BadChoice large = large ≡ stepped.BadChoice

-- the choice is a new address at which the heap has a cell
abbrev pub IsInside : List Cell → Choice → Type 0
IsInside heap (choice.Cell at fields) = IsSome (cell_at heap at)
IsInside heap _ = ⊥

-- the second step carries the frame along, or refuses a new cell at an address of the frame
abbrev pub CarriesOrRefuses : List StructDef → List Cell → Choice → Stepped → Stepped → Type 0
CarriesOrRefuses structs frame choice small large =
    CarriesStep structs frame small large ⊎ (IsInside frame choice × (large ≡ stepped.BadChoice))

-- the numbers that fit a structure are as many as its fields
fields_counted : (fields : List Field) (values : List ℤ) → are_of_fields fields values ≡ true → length values ≡ length fields
fields_counted [] [] fit = refl
fields_counted [] (value ∷ values) fit = cc
fields_counted (field ∷ fields) [] fit = cc
fields_counted (field ∷ fields) (value ∷ values) fit = by_test (fields_counted fields values) (is_of_type field.ty value) refl fit
  where
    by_test : (are_of_fields fields values ≡ true → length values ≡ length fields) → (b : Bool) → is_of_type field.ty value ≡ b →
        are_of_fields (field ∷ fields) (value ∷ values) ≡ true → length (value ∷ values) ≡ length (field ∷ fields)
    by_test later true e fit' = let rest : are_of_fields fields values ≡ true = rw e at fit' in rw (later rest) refl
    by_test later false e fit' = let wrong : false ≡ true = rw e at fit' in cc

fitting_shape : (values : List ℤ) (def : Option StructDef) → fit_struct values def ≡ true →
    IsSomeAnd def (λ def. length values ≡ length def.fields)
fitting_shape values None fit = cc
fitting_shape values (Some def) fit = fields_counted def.fields values fit

both_true : (a b : Bool) → a && b ≡ true → (a ≡ true) × (b ≡ true)
both_true true true e = (refl, refl)
both_true true false e = cc
both_true false b e = cc

middle_false : (a b c : Bool) → b ≡ false → a && b && c ≡ false
middle_false true true c e = cc
middle_false true false c e = refl
middle_false false b c e = refl

above_zero : (at : ℤ) → int_lt (pos 0) at ≡ true → pos 0 <ℤ at
above_zero at e = grind (arith, ints)

-- a new cell that may be chosen has a positive address and the shape of its structure
pub new_cell_fits : (program : Program) (heap : List Cell) (kind : List ℕ) (at : ℤ) (fields : List ℤ) →
    can_be_new program heap kind at fields ≡ true →
    (pos 0 <ℤ at) × HasShape program.structs (record { at = at; kind = kind; fields = fields })
new_cell_fits program heap kind at fields e =
    let tests = both_true (int_lt (pos 0) at && is_none (cell_at heap at)) (fit_struct fields (struct_named program.structs kind)) e in (
      above_zero at (both_true (int_lt (pos 0) at) (is_none (cell_at heap at)) tests.0).0,
      fitting_shape fields
          (struct_named program.structs kind) tests.1,
    )

module _ (program : Program) (below : List Frame) (top : Frame) (own frame whole : List Cell)
    (sum : IsSum program.structs whole own frame) where
  -- a step that leaves the heap as it is
  stays : (stack : List Frame) →
      CarriesStep program.structs frame (stepped.On (record { stack = stack; heap = own }))
      (stepped.On (record { stack = stack; heap = whole }))
  stays stack = (whole, refl, sum)

  any_carries : (to : ℕ) (ty : Ty) (next : ℕ) (choice : Choice) →
      CarriesStep program.structs frame (any_step below top own to ty next choice) (any_step below top whole to ty next choice)
  any_carries to ty next choice.Null = refl
  any_carries to ty next (choice.Cell at fields) = refl
  any_carries to ty next choice.Go = refl
  any_carries to ty next (choice.Value value) = by_test (is_of_type ty value) refl
    where
      by_test : (b : Bool) → is_of_type ty value ≡ b →
          CarriesStep program.structs frame (any_step below top own to ty next (choice.Value value))
          (any_step below top whole to ty next (choice.Value value))
      by_test true e = rw e (whole, refl, sum)
      by_test false e = rw e refl

  in_cell_carries : (kind : List ℕ) (line : ℕ) (use_small use_large : Cell → Stepped) (small large : Option Cell) →
      ((cell : Cell) → small ≡ Some cell → large ≡ Some cell) →
      ((cell : Cell) → small ≡ Some cell → CarriesStep program.structs frame (use_small cell) (use_large cell)) →
      CarriesStep program.structs frame (in_cell kind line use_small small) (in_cell kind line use_large large)
  in_cell_carries kind line use_small use_large None large stands carries = tt
  in_cell_carries kind line use_small use_large (Some cell) large stands carries =
      rw (stands cell refl) (by_test (bytes_eq cell.kind kind) refl)
    where
      by_test : (b : Bool) → bytes_eq cell.kind kind ≡ b →
          CarriesStep program.structs frame (in_cell kind line use_small (Some cell)) (in_cell kind line use_large (Some cell))
      by_test true e = rw e (carries cell refl)
      by_test false e = rw e tt

  at_cell_carries : (at : ℤ) (kind : List ℕ) (line : ℕ) (use_small use_large : Cell → Stepped) →
      ((cell : Cell) → cell_at own at ≡ Some cell → CarriesStep program.structs frame (use_small cell) (use_large cell)) →
      CarriesStep program.structs frame (at_cell own at kind line use_small) (at_cell whole at kind line use_large)
  at_cell_carries at kind line use_small use_large carries = by_test (int_eq at (pos 0)) refl
    where
      by_test : (b : Bool) → int_eq at (pos 0) ≡ b →
          CarriesStep program.structs frame (at_cell own at kind line use_small) (at_cell whole at kind line use_large)
      by_test true e = rw e tt
      by_test false e =
          rw e (in_cell_carries kind line use_small use_large (cell_at own at) (cell_at whole at) (IsSum-cell_left sum at) carries)

  -- the frame has no cell where the part has one
  outside : (at : ℤ) (cell : Cell) → cell_at own at ≡ Some cell → cell_at frame at ≡ None
  outside at cell there = sum.apart at (rw there refl)

  store_carries : (at : ℤ) (kind : List ℕ) (line field : ℕ) (value : ℤ) (next : ℕ) →
      CarriesStep program.structs frame (at_cell own at kind line (λ cell. go_to below top (with_field own at field value) next))
      (at_cell whole at kind line (λ cell. go_to below top (with_field whole at field value) next))
  store_carries at kind line field value next =
      at_cell_carries at kind line (λ cell. go_to below top (with_field own at field value) next)
      (λ cell. go_to below top (with_field whole at field value) next)
      (λ cell there. (with_field whole at field value, refl, IsSum-with_field at field value (outside at cell there) sum))

  cell_carries : (to : ℕ) (kind : List ℕ) (next : ℕ) (at : ℤ) (fields : List ℤ) (found : Option Cell) → cell_at frame at ≡ found →
      CarriesOrRefuses program.structs frame (choice.Cell at fields) (new_step program below top own to kind next (choice.Cell at fields))
      (new_step program below top whole to kind next (choice.Cell at fields))
  cell_carries to kind next at fields (Some cell) inside = inr (rw inside refl, refused)
    where
      some_second : (left right : Option Cell) (cell : Cell) → right ≡ Some cell → is_none (first_of_two left right) ≡ false
      some_second None right cell e = rw e refl
      some_second (Some other) right cell e = refl

      live : is_none (cell_at whole at) ≡ false
      live = rw (sum.cells at) (some_second (cell_at own at) (cell_at frame at) cell inside)

      refused : new_step program below top whole to kind next (choice.Cell at fields) ≡ stepped.BadChoice
      refused = let never : can_be_new program whole kind at fields
          ≡ false =
          middle_false (int_lt (pos 0) at) (is_none (cell_at whole at))
          (fit_struct fields (struct_named program.structs kind)) live in rw never refl
  cell_carries to kind next at fields None none = inl (by_test (can_be_new program own kind at fields) refl)
    where
      alike : can_be_new program whole kind at fields ≡ can_be_new program own kind at fields
      alike = rw (IsSum-cell_outside sum at none) refl

      by_test : (b : Bool) → can_be_new program own kind at fields ≡ b →
          CarriesStep program.structs frame (new_step program below top own to kind next (choice.Cell at fields))
          (new_step program below top whole to kind next (choice.Cell at fields))
      by_test true e =
          let fits = new_cell_fits program own kind at fields e in
          let there : can_be_new program whole kind at fields ≡ true = alike ∙ e in
          rw (e, there) (
            put (record { at = at; kind = kind; fields = fields }) whole,
            refl,
            IsSum-put
                (record { at = at; kind = kind; fields = fields }) fits.0 fits.1 none sum,
          )
      by_test false e =
          let there : can_be_new program whole kind at fields ≡ false = alike ∙ e in
          rw (e, there) refl

  new_carries : (to : ℕ) (kind : List ℕ) (next : ℕ) (choice : Choice) →
      CarriesOrRefuses program.structs frame choice (new_step program below top own to kind next choice)
      (new_step program below top whole to kind next choice)
  new_carries to kind next choice.Null = inl (whole, refl, sum)
  new_carries to kind next (choice.Cell at fields) = cell_carries to kind next at fields (cell_at frame at) refl
  new_carries to kind next (choice.Value value) = inl refl
  new_carries to kind next choice.Go = inl refl

  freed_carries : (at : ℤ) (line next : ℕ) (found : Option Cell) → cell_at own at ≡ found →
      CarriesStep program.structs frame (freed below top own at line next (cell_at own at))
      (freed below top whole at line next (cell_at whole at))
  freed_carries at line next None there = rw there tt
  freed_carries at line next (Some cell) there =
      rw (there, IsSum-cell_left sum at cell there) (without at whole, refl, IsSum-without at (outside at cell there) sum)

  free_carries : (at : ℤ) (line next : ℕ) →
      CarriesStep program.structs frame (free_step below top own at line next) (free_step below top whole at line next)
  free_carries at line next = by_test (int_eq at (pos 0)) refl
    where
      by_test : (b : Bool) → int_eq at (pos 0) ≡ b →
          CarriesStep program.structs frame (free_step below top own at line next) (free_step below top whole at line next)
      by_test true e = rw e (whole, refl, sum)
      by_test false e = rw e (freed_carries at line next (cell_at own at) refl)

  called_carries : (line : ℕ) (to : Option ℕ) (args : List ℤ) (next : ℕ) (found : Option (ℕ × Proc)) →
      CarriesStep program.structs frame (called below top own line to args next found) (called below top whole line to args next found)
  called_carries line to args next None = tt
  called_carries line to args next (Some (number, proc)) = (whole, refl, sum)

  returned_carries : (value : ℤ) (caller : Option Frame) →
      CarriesStep program.structs frame (returned below top own value caller) (returned below top whole value caller)
  returned_carries value None = (whole, refl, sum)
  returned_carries value (Some caller) = (whole, refl, sum)

  cmd_carries : (choice : Choice) (line : ℕ) (command : Cmd) →
      CarriesOrRefuses program.structs frame choice (step_cmd program below top own choice line command)
      (step_cmd program below top whole choice line command)
  cmd_carries choice line (cmd.Copy to from next) = inl (whole, refl, sum)
  cmd_carries choice line (cmd.Arith to op left right next) = inl (whole, refl, sum)
  cmd_carries choice line (cmd.Any to ty next) = inl (any_carries to ty next choice)
  cmd_carries choice line (cmd.Load to base kind field next) =
      inl (at_cell_carries (slice_index_or top.locals base (pos 0)) kind line
      (λ cell. go_with below top own to (slice_index_or cell.fields field (pos 0)) next)
      (λ cell. go_with below top whole to (slice_index_or cell.fields field (pos 0)) next) (λ cell there. (whole, refl, sum)))
  cmd_carries choice line (cmd.Store base kind field from next) =
      inl (store_carries (slice_index_or top.locals base (pos 0)) kind line field (operand_value top.locals from) next)
  cmd_carries choice line (cmd.New to kind next) = new_carries to kind next choice
  cmd_carries choice line (cmd.Free base kind next) = inl (free_carries (slice_index_or top.locals base (pos 0)) line next)
  cmd_carries choice line (cmd.Call to callee args next) =
      inl (called_carries line to (map (operand_value top.locals) args) next (proc_named_from 0 program.procs callee))
  cmd_carries choice line (cmd.Branch op pointers left right on_true on_false) = inl (whole, refl, sum)
  cmd_carries choice line (cmd.Return value) = inl (returned_carries (operand_value top.locals value) (top_of below))

  at_carries : (choice : Choice) (proc : Proc) (node : Option Node) →
      CarriesOrRefuses program.structs frame choice (step_at program below top own choice proc node)
      (step_at program below top whole choice proc node)
  at_carries choice proc None = inl refl
  at_carries choice proc (Some node) = cmd_carries choice (proc.line + node.line) node.cmd

  in_carries : (choice : Choice) (proc : Option Proc) →
      CarriesOrRefuses program.structs frame choice (step_in program below top own choice proc)
      (step_in program below top whole choice proc)
  in_carries choice None = inl refl
  in_carries choice (Some proc) = at_carries choice proc (slice_get proc.flow.nodes top.node)

top_carries : (program : Program) (below : List Frame) (own frame whole : List Cell) (sum : IsSum program.structs whole own frame)
    (choice : Choice) (top : Option Frame) →
    CarriesOrRefuses program.structs frame choice (step_top program below own choice top) (step_top program below whole choice top)
top_carries program below own frame whole sum choice None = inl refl
top_carries program below own frame whole sum choice (Some top) =
    in_carries program below top own frame whole sum choice (slice_get program.procs top.proc)

-- a step beside any frame, under any choice
pub step_carries : (program : Program) (config : Config) (frame whole : List Cell) (choice : Choice) →
    IsSum program.structs whole config.heap frame →
    CarriesOrRefuses program.structs frame choice (step program config choice)
    (step program (record { stack = config.stack; heap = whole }) choice)
step_carries program config frame whole choice sum =
    top_carries program (below_top config.stack) config.heap frame whole sum choice (top_of config.stack)

pub not_inside : (heap : List Cell) (choice : Choice) → IsOutside heap choice → IsInside heap choice → ⊥
not_inside heap choice.Null outside inside = inside
not_inside heap (choice.Cell at fields) outside inside = let wrong : false ≡ true = rw outside at inside in cc
not_inside heap (choice.Value value) outside inside = inside
not_inside heap choice.Go outside inside = inside

-- a step beside a frame, under a choice that puts no new cell into the frame
pub StepCarries : (program : Program) (config : Config) (frame whole : List Cell) (choice : Choice) →
    IsSum program.structs whole config.heap frame → IsOutside frame choice →
    CarriesStep program.structs frame (step program config choice) (step program (record { stack = config.stack; heap = whole }) choice)
StepCarries program config frame whole choice sum outside =
    elim (step_carries program config frame whole choice sum) [
      | inl carries ↦ carries
      | inr refused ↦ absurd
          (not_inside frame choice outside refused.0)
    ]
