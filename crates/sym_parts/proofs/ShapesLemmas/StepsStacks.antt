-- Stacks that are well formed, from their frames; and what a well-formed program says of a procedure and a node.
use Rattle.std.specs.Prelude.{◌≡◌, ℕ, zero, suc, ◌+◌, ◌-◌, ◌<◌, ◌≤◌, ℤ, pos, Bool, true, false, List, [], ◌∷◌, ◌++◌, length, replicate}
use Rattle.std.specs.Prelude.{slice_get, slice_index_or, All}
use Rattle.std.specs.Str.{bytes_eq}
use Rattle.std.specs.declared.option.Option.{Option}
use Rattle.std.specs.declared.option.Option.TheVariants.{None, Some}
use Rattle.std.proofs.Common.{refl, ap, ◌∙◌, arith}
use Rattle.std.proofs.lemmas.List.{length-append, length-replicate, length_push}
use Rattle.std.proofs.lemmas.Option.{slice_get_within, get_or_from_slice_get}
use Rattle.std.proofs.lemmas.Slice.Eq.{bytes_eq-Decides}
use Rattle.shape_data.specs.declared.machine.Frame.{Frame}
use Rattle.shape_data.specs.declared.program.Flow.{Flow}
use Rattle.shape_data.specs.declared.program.Proc.{Proc}
use Rattle.shape_data.specs.declared.program.Program.{Program}
use Rattle.shape_data.specs.Machine.{top_of, below_top, proc_named_from, new_frame}
use Rattle.shape_data.specs.WellFormed.{IsFrame, AreFrames}

-- ---- lists

-- what holds of each holds of the one at a place
pub All-at : {A : Type 0} (P : A → Type 0) (things : List A) (place : ℕ) (thing : A) → All P things → slice_get things place ≡ Some thing →
    P thing
All-at P things place thing all is =
    let here : slice_index_or things place thing ≡ thing = get_or_from_slice_get things place thing thing is in
    rw here at (all place thing (slice_get_within things place thing is))

-- at a place within the list there is something
pub within-some : {A : Type 0} (things : List A) (place : ℕ) → place < length things → (thing : A) × (slice_get things place ≡ Some thing)
within-some [] place within = absurd (omega arith)
within-some (thing ∷ things) zero within = (thing, refl)
within-some (thing ∷ things) (suc place) within = let inside : place < length things = omega arith in within-some things place inside

pub some_pushed : {A : Type 0} (things : List A) (thing : A) → 0 < length (things ++ thing ∷ [])
some_pushed things thing = rw (length_push things thing) (omega arith)

pub some_pushed_two : {A : Type 0} (things : List A) (one two : A) → 0 < length (things ++ one ∷ two ∷ [])
some_pushed_two things one two = rw (length-append things (one ∷ two ∷ [])) (omega arith)

-- ---- stacks

-- the frame that runs stands on those that wait
pub stack_is : (frames : List Frame) (top : Frame) → top_of frames ≡ Some top → frames ≡ below_top frames ++ top ∷ []
stack_is [] top is = cc
stack_is (frame ∷ []) top is = let same : frame ≡ top = cc in ap (λ f. f ∷ []) same
stack_is (frame ∷ next ∷ frames) top is = ap (λ rest. frame ∷ rest) (stack_is (next ∷ frames) top is)

pub no_top : (frames : List Frame) → top_of frames ≡ None → frames ≡ []
no_top [] is = refl
no_top (frame ∷ []) is = cc
no_top (frame ∷ next ∷ frames) is = let wrong : next ∷ frames ≡ [] = no_top (next ∷ frames) is in cc

-- the last of some frames that stand on another, or that other one
abbrev pub last_of : Option Frame → List Frame → Option Frame
last_of under [] = under
last_of under (frame ∷ frames) = last_of (Some frame) frames

pub last_of-push : (under : Option Frame) (frames : List Frame) (frame : Frame) → last_of under (frames ++ frame ∷ []) ≡ Some frame
last_of-push under [] frame = refl
last_of-push under (first ∷ frames) frame = last_of-push (Some first) frames frame

pub AreFrames-append : (program : Program) (under : Option Frame) (frames others : List Frame) →
    AreFrames program under frames → AreFrames program (last_of under frames) others → AreFrames program under (frames ++ others)
AreFrames-append program under [] others are more = more
AreFrames-append program under (frame ∷ frames) others are more =
    (are.0, are.1, AreFrames-append program (Some frame) frames others are.2 more)

pub AreFrames-split : (program : Program) (under : Option Frame) (frames others : List Frame) →
    AreFrames program under (frames ++ others) → AreFrames program under frames × AreFrames program (last_of under frames) others
AreFrames-split program under [] others are = (tt, are)
AreFrames-split program under (frame ∷ frames) others are =
    let rest = AreFrames-split program (Some frame) frames others are.2 in
    ((are.0, are.1, rest.0), rest.1)

-- a frame is well formed by its procedure
pub IsFrame-of : (program : Program) (frame : Frame) (proc : Proc) → slice_get program.procs frame.proc ≡ Some proc →
    frame.node < length proc.flow.nodes → length frame.locals ≡ length proc.flow.slots → IsFrame program frame
IsFrame-of program frame proc is node locals = rw is (node, locals)

-- ---- procedures

-- the procedure that a name finds stands at its number, and has that name
pub proc_found : (k : ℕ) (procs : List Proc) (name : List ℕ) (found : ℕ × Proc) → proc_named_from k procs name ≡ Some found →
    (place : ℕ) × (found.0 ≡ k + place) × (slice_get procs place ≡ Some found.1) × (found.1.flow.name ≡ name)
proc_found k [] name found is = cc
proc_found k (proc ∷ procs) name found is = by_test (proc_found (k + 1) procs name found) (bytes_eq proc.flow.name name) refl is
  where
    by_test : (proc_named_from (k + 1) procs name ≡ Some found →
        (place : ℕ) × (found.0 ≡ k + 1 + place) × (slice_get procs place ≡ Some found.1) × (found.1.flow.name ≡ name)) →
        (b : Bool) → bytes_eq proc.flow.name name ≡ b → proc_named_from k (proc ∷ procs) name ≡ Some found →
        (place : ℕ) × (found.0 ≡ k + place) × (slice_get (proc ∷ procs) place ≡ Some found.1) × (found.1.flow.name ≡ name)
    by_test later true e is' =
        let told : Some (k, proc) ≡ Some found = rw e at is' in
        let same : (k, proc) ≡ found = cc in
        let number : k ≡ k + 0 = omega arith in
        rw (← same) (0, number, refl, (bytes_eq-Decides proc.flow.name name).0 e)
    by_test later false e is' =
        let told : proc_named_from (k + 1) procs name ≡ Some found = rw e at is' in
        let rest = later told in
        let number : found.0 ≡ k + suc rest.0 = rest.1 ∙ omega arith in
        (suc rest.0, number, rest.2, rest.3)

-- a new frame has one local for each slot
pub new_frame_locals : (number : ℕ) (flow : Flow) (args : List ℤ) (to : Option ℕ) → length args ≤ length flow.slots →
    length (new_frame number flow args to).locals ≡ length flow.slots
new_frame_locals number flow args to few =
    rw (
      length-append args (replicate (length flow.slots - length args) (pos 0)),
      length-replicate (length flow.slots - length args)
          (pos 0),
    ) (omega arith)
