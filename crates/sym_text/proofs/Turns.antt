-- Parts turn by turn, as the code reads them, and what the code tells of a refusal.
use Rattle.std.proofs.Common.{◌≡◌, not, if◌then◌else◌, ℕ, suc, ◌-◌, ◌<◌, ◌≤◌, Bool, true, false, List, [], ◌∷◌, length, refl, sym, ap, ◌∙◌}
use Rattle.std.proofs.Common.{subst, length-append, arith}
use Rattle.shape_data.specs.declared.program.StructDef.{StructDef}
use Rattle.shape_data.specs.declared.symbolic.SymHeap.{SymHeap}
use Rattle.sym_text.specs.declared.fault.Fault.{Fault}
use Rattle.sym_text.specs.declared.fault.Fault.TheVariants.{Refused, OutOfMemory}
use Rattle.sym_text.specs.declared.parts.Part.{Part}
use Rattle.std.specs.Prelude.{nat_eq}
use Rattle.std.proofs.lemmas.Bool.Decides.{nat_tests}
use Rattle.shape_data.specs.declared.symbolic.Post.{Post}
use Rattle.shape_data.specs.WellFormed.{AreStructs, AreParams}
use Rattle.sym_text.specs.Grammar.{IsRefused, IsRefusal, IsWritten, IsWrittenPost, IsHeapText, IsPostText}
use Rattle.sym_text.specs.Text.{heap_text, post_text}
use Rattle.sym_text.proofs.HeapTexts.{emp_heap}
use Rattle.sym_text.proofs.StructLaws.{good_structs, good_params}
use Rattle.sym_text.specs.Outcome.{Outcome, Got, Stopped, Reader, pass, go_on, ◌>>=◌, give, IsStop, HasLeft, IsWithin, bad_of}
use Rattle.sym_text.specs.Reading.{has_some, with_part, more_may_come, read_part, read_separator, read_turn, read_parts, read_whole_heap}
use Rattle.sym_text.specs.Reading.{read_whole_post}
use Rattle.sym_text.proofs.Chains.{stop_then}
use Rattle.sym_text.proofs.Exactly.{Language, Answers, Reads, Anything}
use Rattle.sym_text.proofs.WholeLaws.{AtLast, got_whole, stopped_whole, one_text, WholeHeap, WholePost, whole_heap-Reads, whole_post-Reads}
use Rattle.sym_text.proofs.WholeLaws.{some_heap, some_post}

-- what stands behind a turn
abbrev after_turn : Bool → List StructDef → List (List ℕ) → ℕ → SymHeap → Part → Bool → Reader SymHeap
after_turn with_ret structs params left heap one more =
    if more then read_parts with_ret structs params left false (with_part heap one) else give (with_part heap one)

parts_turn : (with_ret : Bool) (structs : List StructDef) (params : List (List ℕ)) (left : ℕ) (is_first : Bool) (heap : SymHeap)
    (text : List ℕ)
    → read_parts with_ret structs params (suc left) is_first heap text
    ≡ (read_turn with_ret structs params (not (has_some heap.spatial)) is_first left
    >>= λ turn. after_turn with_ret structs params left heap turn.0 turn.1) text
unfolding read_parts go_on read_turn
parts_turn with_ret structs params left is_first heap text = by_part (read_part structs params (not (has_some heap.spatial)) is_first text)
  where
    by_sep : (one : Part) (o : Outcome Bool)
        → pass o (λ more. after_turn with_ret structs params left heap one more)
        ≡ pass (pass o (λ more. give {A = Part × Bool} (one, more))) (λ turn. after_turn with_ret structs params left heap turn.0 turn.1)
    by_sep one (Got more rest) = refl
    by_sep one (Stopped rest) = refl

    by_part : (o : Outcome Part)
        → pass o (λ one rest. pass (read_separator with_ret (more_may_come left one) rest)
        (λ more. after_turn with_ret structs params left heap one more))
        ≡ pass (pass o
        (λ one rest. pass (read_separator with_ret (more_may_come left one) rest) (λ more. give {A = Part × Bool} (one, more))))
        (λ turn. after_turn with_ret structs params left heap turn.0 turn.1)
    by_part (Got one rest) = by_sep one (read_separator with_ret (more_may_come left one) rest)
    by_part (Stopped rest) = refl

one_more : (left : ℕ) → 0 < left → left ≡ suc (left - 1)
one_more left some = omega arith

pub turn_more : (with_ret : Bool) (structs : List StructDef) (params : List (List ℕ)) (left : ℕ) (is_first : Bool) (heap : SymHeap)
    (text : List ℕ) (one : Part) (rest : List ℕ) → 0 < left
    → read_turn with_ret structs params (not (has_some heap.spatial)) is_first (left - 1) text ≡ Got (one, true) rest
    → read_parts with_ret structs params left is_first heap text
    ≡ read_parts with_ret structs params (left - 1) false (with_part heap one) rest
unfolding go_on
turn_more with_ret structs params left is_first heap text one rest some turn =
    ap (λ n. read_parts with_ret structs params n is_first heap text) (one_more left some)
    ∙ parts_turn with_ret structs params (left - 1) is_first heap text
    ∙ ap (λ o. pass o (λ turn. after_turn with_ret structs params (left - 1) heap turn.0 turn.1)) turn

pub turn_last : (with_ret : Bool) (structs : List StructDef) (params : List (List ℕ)) (left : ℕ) (is_first : Bool) (heap : SymHeap)
    (text : List ℕ) (one : Part) (rest : List ℕ) → 0 < left
    → read_turn with_ret structs params (not (has_some heap.spatial)) is_first (left - 1) text ≡ Got (one, false) rest
    → read_parts with_ret structs params left is_first heap text ≡ Got (with_part heap one) rest
unfolding go_on
turn_last with_ret structs params left is_first heap text one rest some turn =
    ap (λ n. read_parts with_ret structs params n is_first heap text) (one_more left some)
    ∙ parts_turn with_ret structs params (left - 1) is_first heap text
    ∙ ap (λ o. pass o (λ turn. after_turn with_ret structs params (left - 1) heap turn.0 turn.1)) turn

pub turn_stops : (with_ret : Bool) (structs : List StructDef) (params : List (List ℕ)) (left : ℕ) (is_first : Bool) (heap : SymHeap)
    (text : List ℕ) (fault : Fault) → 0 < left
    → IsStop fault (read_turn with_ret structs params (not (has_some heap.spatial)) is_first (left - 1) text)
    → IsStop fault (read_parts with_ret structs params left is_first heap text)
turn_stops with_ret structs params left is_first heap text fault some stop =
    subst (λ (o : Outcome SymHeap). IsStop fault o)
    (sym (ap (λ n. read_parts with_ret structs params n is_first heap text) (one_more left some)
    ∙ parts_turn with_ret structs params (left - 1) is_first heap text))
    (stop_then (read_turn with_ret structs params (not (has_some heap.spatial)) is_first (left - 1))
    (λ turn. after_turn with_ret structs params (left - 1) heap turn.0 turn.1) text fault stop)

pub no_turn : (with_ret : Bool) (structs : List StructDef) (params : List (List ℕ)) (left : ℕ) (is_first : Bool) (heap : SymHeap)
    (text : List ℕ) → left ≡ 0 → read_parts with_ret structs params left is_first heap text ≡ Stopped text
unfolding read_parts
no_turn with_ret structs params left is_first heap text none = ap (λ n. read_parts with_ret structs params n is_first heap text) none

-- REFUSALS

pub stop_within : {A : Type 0} (L : Language A) (r : Reader A) → Reads Anything L AtLast r → (text : List ℕ) (fault : Fault)
    → IsStop fault (r text) → IsWithin fault (length text)
stop_within {A} L r reads text OutOfMemory stop = tt
stop_within {A} L r reads text (Refused left) stop = of_outcome (r text) (reads.answers text tt) stop
  where
    of_outcome : (o : Outcome A) → Answers L AtLast text o → HasLeft left o → left ≤ length text
    of_outcome (Got a rest) answers stop = absurd stop
    of_outcome (Stopped rest) answers stop = let long = ap length answers.cut in let sum = length-append answers.front rest in omega arith

pub stop_refuses : {A : Type 0} (L : Language A) (r : Reader A) → Reads Anything L AtLast r → (a : A) × (t : List ℕ) × L a t
    → (text : List ℕ) (fault : Fault) → IsStop fault (r text) → IsRefusal (λ t. (a : A) × L a t) text (bad_of (length text) fault)
stop_refuses {A} L r reads some text OutOfMemory stop = tt
stop_refuses {A} L r reads some text (Refused left) stop = of_outcome (r text) refl (reads.answers text tt) stop
  where
    of_outcome : (o : Outcome A) → r text ≡ o → Answers L AtLast text o → HasLeft left o
        → IsRefused (λ t. (a : A) × L a t) text (length text - left)
    of_outcome (Got a rest) is answers stop = absurd stop
    of_outcome (Stopped rest) is answers stop =
        let long = ap length answers.cut in let sum = length-append answers.front rest in
        stopped_whole L r reads some text rest is (length text - left) (omega arith)

-- AS THE CODE SEES THEM

abbrev got_turn : Part → Bool → List ℕ → Outcome (Part × Bool)
got_turn one more rest = Got (one, more) rest

pub empty_facts : {A : Type 0} (things : List A) (empty : Bool) → empty ≡ nat_eq (length things) 0 → empty ≡ not (has_some things)
empty_facts [] empty is = is
empty_facts (thing ∷ things) empty is = let some : nat_eq (length (thing ∷ things)) 0 ≡ false = not_zero (length things) in is ∙ some
  where
    not_zero : (n : ℕ) → nat_eq (suc n) 0 ≡ false
    not_zero n = grind (arith, nat_tests)

pub turn_stops_in : (with_ret : Bool) (structs : List StructDef) (params : List (List ℕ)) (left : ℕ) (is_first facts : Bool)
    (heap : SymHeap) (text : List ℕ) (whole : Outcome SymHeap) (fault : Fault) → facts ≡ not (has_some heap.spatial) → 0 < left
    → read_parts with_ret structs params left is_first heap text ≡ whole
    → IsStop fault (read_turn with_ret structs params facts is_first (left - 1) text) → IsStop fault whole
turn_stops_in with_ret structs params left is_first facts heap text whole fault facts_so some so stop =
    subst (λ (o : Outcome SymHeap). IsStop fault o) so
    (turn_stops with_ret structs params left is_first heap text fault some
    (subst (λ (b : Bool). IsStop fault (read_turn with_ret structs params b is_first (left - 1) text)) facts_so stop))

pub turn_last_in : (with_ret : Bool) (structs : List StructDef) (params : List (List ℕ)) (left : ℕ) (is_first facts : Bool)
    (heap after : SymHeap) (text : List ℕ) (whole : Outcome SymHeap) (one : Part) (more : Bool) (rest : List ℕ)
    → facts ≡ not (has_some heap.spatial) → 0 < left
    → read_parts with_ret structs params left is_first heap text ≡ whole → after ≡ with_part heap one → more ≡ false
    → read_turn with_ret structs params facts is_first (left - 1) text ≡ Got (one, more) rest → whole ≡ Got after rest
turn_last_in with_ret structs params left is_first facts heap after text whole one more rest facts_so some so pushed last turn =
    sym so ∙ turn_last with_ret structs params left is_first heap text one rest some
    (ap (λ b. read_turn with_ret structs params b is_first (left - 1) text) (sym facts_so) ∙ turn
    ∙ ap (λ (b : Bool). got_turn one b rest) last) ∙ ap (λ h. Got h rest) (sym pushed)

pub turn_more_in : (with_ret : Bool) (structs : List StructDef) (params : List (List ℕ)) (left : ℕ) (is_first facts : Bool)
    (heap after : SymHeap) (text : List ℕ) (whole : Outcome SymHeap) (one : Part) (more : Bool) (rest : List ℕ)
    → facts ≡ not (has_some heap.spatial) → 0 < left
    → read_parts with_ret structs params left is_first heap text ≡ whole → after ≡ with_part heap one → more ≡ true
    → read_turn with_ret structs params facts is_first (left - 1) text ≡ Got (one, more) rest
    → read_parts with_ret structs params (left - 1) false after rest ≡ whole
turn_more_in with_ret structs params left is_first facts heap after text whole one more rest facts_so some so pushed further turn =
    ap (λ h. read_parts with_ret structs params (left - 1) false h rest) pushed
    ∙ sym (turn_more with_ret structs params left is_first heap text one rest some
    (ap (λ b. read_turn with_ret structs params b is_first (left - 1) text) (sym facts_so) ∙ turn
    ∙ ap (λ (b : Bool). got_turn one b rest) further)) ∙ so

pub no_turn_in : (with_ret : Bool) (structs : List StructDef) (params : List (List ℕ)) (left : ℕ) (is_first : Bool) (heap : SymHeap)
    (text : List ℕ) (whole : Outcome SymHeap) → left ≤ 0 → read_parts with_ret structs params left is_first heap text ≡ whole
    → HasLeft (length text) whole
no_turn_in with_ret structs params left is_first heap text whole none so =
    subst (λ (o : Outcome SymHeap). HasLeft (length text) o)
    (sym (no_turn with_ret structs params left is_first heap text (omega arith)) ∙ so) refl

-- WHOLE HEAPS AND POSTS

pub heap_got : (structs : List StructDef) (params : List (List ℕ)) → AreStructs structs → AreParams params
    → (text : List ℕ) (heap : SymHeap) (rest : List ℕ) → read_parts false structs params 4000 true emp_heap text ≡ Got heap rest
    → WholeHeap structs params heap text
unfolding read_whole_heap
heap_got structs params are_structs are_params text heap rest is =
    got_whole (WholeHeap structs params) (read_whole_heap structs params)
    (whole_heap-Reads structs params (good_structs structs are_structs) (good_params params are_params)) text heap rest is

pub heap_within : (structs : List StructDef) (params : List (List ℕ)) → AreStructs structs → AreParams params
    → (text : List ℕ) (fault : Fault) → IsStop fault (read_parts false structs params 4000 true emp_heap text)
    → IsWithin fault (length text)
unfolding read_whole_heap
heap_within structs params are_structs are_params text fault stop =
    stop_within (WholeHeap structs params) (read_whole_heap structs params)
    (whole_heap-Reads structs params (good_structs structs are_structs) (good_params params are_params)) text fault stop

pub heap_refuses : (structs : List StructDef) (params : List (List ℕ)) → AreStructs structs → AreParams params
    → (text : List ℕ) (fault : Fault) → IsStop fault (read_parts false structs params 4000 true emp_heap text)
    → IsRefusal (IsHeapText structs params) text (bad_of (length text) fault)
unfolding read_whole_heap
heap_refuses structs params are_structs are_params text fault stop =
    stop_refuses (WholeHeap structs params) (read_whole_heap structs params)
    (whole_heap-Reads structs params (good_structs structs are_structs) (good_params params are_params))
    (some_heap structs params) text fault stop

pub post_got : (structs : List StructDef) (params : List (List ℕ)) → AreStructs structs → AreParams params
    → (text : List ℕ) (post : Post) (rest : List ℕ) → read_whole_post structs params text ≡ Got post rest
    → WholePost structs params post text
post_got structs params are_structs are_params text post rest is =
    got_whole (WholePost structs params) (read_whole_post structs params)
    (whole_post-Reads structs params (good_structs structs are_structs) (good_params params are_params)) text post rest is

pub post_within : (structs : List StructDef) (params : List (List ℕ)) → AreStructs structs → AreParams params
    → (text : List ℕ) (fault : Fault) → IsStop fault (read_whole_post structs params text) → IsWithin fault (length text)
post_within structs params are_structs are_params text fault stop =
    stop_within (WholePost structs params) (read_whole_post structs params)
    (whole_post-Reads structs params (good_structs structs are_structs) (good_params params are_params)) text fault stop

pub post_refuses : (structs : List StructDef) (params : List (List ℕ)) → AreStructs structs → AreParams params
    → (text : List ℕ) (fault : Fault) → IsStop fault (read_whole_post structs params text)
    → IsRefusal (IsPostText structs params) text (bad_of (length text) fault)
post_refuses structs params are_structs are_params text fault stop =
    stop_refuses (WholePost structs params) (read_whole_post structs params)
    (whole_post-Reads structs params (good_structs structs are_structs) (good_params params are_params))
    (some_post structs params) text fault stop

-- ONE TEXT, ONE HEAP

pub heaps_once : (structs : List StructDef) (params : List (List ℕ)) → AreStructs structs → AreParams params → (one other : SymHeap)
    → IsWritten structs params one → IsWritten structs params other → heap_text structs params one ≡ heap_text structs params other
    → one ≡ other
heaps_once structs params are_structs are_params one other is_one is_other same =
    one_text (WholeHeap structs params) (read_whole_heap structs params)
    (whole_heap-Reads structs params (good_structs structs are_structs) (good_params params are_params)) one other
    (heap_text structs params one) (is_one, refl) (is_other, same)

pub posts_once : (structs : List StructDef) (params : List (List ℕ)) → AreStructs structs → AreParams params → (one other : Post)
    → IsWrittenPost structs params one → IsWrittenPost structs params other
    → post_text structs params true one ≡ post_text structs params true other → one ≡ other
posts_once structs params are_structs are_params one other is_one is_other same =
    one_text (WholePost structs params) (read_whole_post structs params)
    (whole_post-Reads structs params (good_structs structs are_structs) (good_params params are_params)) one other
    (post_text structs params true one) (is_one, refl) (is_other, same)
