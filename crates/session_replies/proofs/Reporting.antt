-- What is known of a program can be printed.
use Rattle.std.proofs.Common.{◌≡◌, ℕ, ◌<◌, ◌≤◌, List, length, Option, option_and_then, None, Some, sym, subst, arith, inl, inr}
use Rattle.std.specs.List.{position}
use Rattle.std.specs.Prelude.{All, slice_get, ◌⊎◌, get_or}
use Rattle.std.proofs.lemmas.Option.{slice_get_cases, slice_get-get_or, slice_get_within}
use Rattle.shape_data.specs.declared.answer.ProcSummary.{ProcSummary}
use Rattle.shape_data.specs.declared.program.Proc.{Proc}
use Rattle.shape_data.specs.declared.program.Program.{Program}
use Rattle.shape_data.specs.WellFormed.{IsCountable, IsProgram}
use Rattle.report_text.specs.Parts.{AreReportable, FormedIsPrintable, IsPrintable}
use Rattle.bottom_up.specs.BottomUp.{program_summaries}
use Rattle.bottom_up.specs.Laws.{EachIsReported, IsReported, IsRight}
use Rattle.claim_core.specs.Views.{Solution}
use Rattle.session_replies.specs.Known.{named_summary}
use Rattle.session_replies.specs.Texts.{is_named}

module _ (each : EachIsReported) (loaded : List Solution) (right : All IsRight loaded) (program : Program) (fine : IsProgram program) where
  abbrev known : List ProcSummary
  known = program_summaries loaded program

  pub one_each : length known ≡ length program.procs
  one_each = (each loaded right program fine).0

  -- the summary at a place is that of the procedure there
  reported_at : (number : ℕ) (summary : ProcSummary) → slice_get known number ≡ Some summary
      → (proc : Proc) × IsReported program number proc summary
  reported_at number summary there = by ((slice_get_cases program.procs number).1)
    where
      by : ((proc : Proc) × (number < length program.procs) × (slice_get program.procs number ≡ Some proc)
          × (get_or program.procs number proc ≡ proc)) ⊎ ((length program.procs ≤ number) × (slice_get program.procs number ≡ None))
          → (proc : Proc) × IsReported program number proc summary
      by (inl (proc, inside, is, same)) = (proc, (each loaded right program fine).1 number proc summary is there)
      by (inr (past, none)) =
          let inside : number < length known = slice_get_within known number summary there in
          let same : length known ≡ length program.procs = one_each in
          absurd (omega arith)

  -- what holds of each summary that is reported
  each_summary : (P : ProcSummary → Type 0)
      → ((number : ℕ) (proc : Proc) (summary : ProcSummary) → IsReported program number proc summary → P summary) → All P known
  each_summary P holds = λ number d inside.
      let (proc, reported) = reported_at number (get_or known number d) (slice_get-get_or known number d inside) in
      holds number proc (get_or known number d) reported

  pub are_reportable : FormedIsPrintable → AreReportable program.structs program.procs known
  are_reportable printable = record {
    one_each = one_each;
    printable =
        each_summary (IsPrintable program.structs)
        (λ number proc summary is. printable _ program.structs proc.flow summary is.formed is.reason);
    countable = record {
      few = subst (λ (count : ℕ). count < 4294967296) (sym one_each) fine.countable;
      specs =
          each_summary (λ (summary : ProcSummary). IsCountable summary.specs)
          (λ number proc summary is. let few : length summary.specs ≤ 4294967295 = is.formed.few in omega (arith, few));
    };
  }

  -- so can the summary of one procedure
  pub named_is_printable : FormedIsPrintable → (name : List ℕ) (summary : ProcSummary) → named_summary loaded program name ≡ Some summary
      → IsPrintable program.structs summary
  named_is_printable printable name summary is = by_place (position (is_named name) program.procs) is
    where
      by_place : (o : Option ℕ) → option_and_then (slice_get known) o ≡ Some summary → IsPrintable program.structs summary
      by_place None there = absurd cc
      by_place (Some number) there =
          let own = reported_at number summary there in printable _ program.structs own.0.flow summary own.1.formed own.1.reason
