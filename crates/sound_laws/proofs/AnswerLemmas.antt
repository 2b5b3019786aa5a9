-- An answer with inductive certificates is valid: its certificates, and the callees of its key, support each other.
use Rattle.std.specs.Prelude.{◌≡◌, ◌⊎◌, ℕ, suc, ◌<◌, ◌≤◌, List, [], ◌∷◌, length, slice_get, All}
use Rattle.std.specs.declared.option.Option.TheVariants.{Some}
use Rattle.std.proofs.Common.{refl, ap, ◌∙◌, arith, inl, inr}
use Rattle.std.proofs.lemmas.List.Elements.{All-append, All-cons, All-nil, All-weaker}
use Rattle.shape_data.specs.declared.answer.Answer.{Answer}
use Rattle.shape_data.specs.declared.answer.Callee.{Callee}
use Rattle.shape_data.specs.declared.answer.Key.{Key}
use Rattle.shape_data.specs.declared.answer.ProcSummary.{ProcSummary}
use Rattle.shape_data.specs.declared.program.Flow.{Flow}
use Rattle.shape_data.specs.declared.program.Proc.{Proc}
use Rattle.shape_data.specs.declared.program.Program.{Program}
use Rattle.shape_data.specs.declared.symbolic.Cert.{Cert}
use Rattle.shape_data.specs.declared.symbolic.Spec.{Spec}
use Rattle.shape_data.specs.Valid.{Valid}
use Rattle.shape_data.specs.WellFormed.{IsFlow, IsKey, Limits}
use Rattle.sym_parts.proofs.ShapesLemmas.StepsStacks.{All-at}
use Rattle.sound_laws.specs.Answers.{callee_with, own_callees, usable_callees, Summarizes, StandsIn, HasInductiveCerts, AreValidIn}
use Rattle.sound_laws.specs.Answers.{AnswerIsValid}
use Rattle.sound_laws.specs.Certificates.{IsInductive, IsInductiveFor, IsSupported, SupportEachOther}
use Rattle.sound_laws.specs.Procedures.{Finds, HasFlow, IsValidCallee}
use Rattle.sound_laws.proofs.CertificateLemmas.{claimed_is_valid}
use Rattle.sound_laws.proofs.ProcedureLemmas.{each_place, found_once, found_stands}

-- what holds of each procedure with its summary holds of each own callee
pub each_own : (P : Callee → Type 0) (flows : List Flow) (summaries : List ProcSummary) →
    ((place : ℕ) (flow : Flow) (summary : ProcSummary) → slice_get flows place ≡ Some flow → slice_get summaries place ≡ Some summary →
    P (callee_with flow summary)) →
    All P (own_callees flows summaries)
each_own P [] summaries each = All-nil P
each_own P (flow ∷ flows) [] each = All-nil P
each_own P (flow ∷ flows) (summary ∷ summaries) each =
    All-cons P (callee_with flow summary) (own_callees flows summaries) (each 0 flow summary refl refl)
    (each_own P flows summaries (λ place one its is_flow is_summary. each (suc place) one its is_flow is_summary))

module _ (limits : Limits) (program : Program) (key : Key) (answer : Answer) (is_key : IsKey limits key) (stands : StandsIn program key)
    (certified : HasInductiveCerts program key answer) where
  -- the certificate is inductive for a spec of a procedure of the key, which has this number in the program
  record Claimed (number : ℕ) (spec : Spec) (cert : Cert) : Type 0 where
    flow : Flow
    proc : Proc
    logical : length flow.params < 65536
    found : Finds program flow.name number proc
    same : proc.flow ≡ flow
    inductive : IsInductive program (usable_callees key answer) flow spec cert

  -- each spec of the answer is claimed
  claimed : (flow : Flow) (summary : ProcSummary) → Summarizes key answer flow summary → (number : ℕ) (proc : Proc) →
      Finds program flow.name number proc →
      (at : ℕ) (spec : Spec) → slice_get summary.specs at ≡ Some spec → (cert : Cert) × Claimed number spec cert
  claimed flow summary summarizes number proc found at spec is_spec =
      let has = certified flow summary summarizes at spec is_spec in
      let is_flow : IsFlow key.structs flow = All-at (IsFlow key.structs) key.procs summarizes.0 flow is_key.procs.each summarizes.1.0 in
      let few : length flow.params ≤ 32768 = is_flow.params.few in
      let stood : HasFlow program flow = All-at (HasFlow program) key.procs summarizes.0 flow stands.own summarizes.1.0 in
      let alike : proc ≡ stood.proc = (found_once program flow.name number stood.number proc stood.proc found stood.found).1 in (
        has.0,
        record {
          flow = flow;
          proc = proc;
          logical = omega arith;
          found = found;
          same = ap (λ (one : Proc). one.flow) alike ∙ stood.same;
          inductive = has.2;
        },
      )

  supported : SupportEachOther program (usable_callees key answer) Claimed
  supported = record {
    claims = λ number spec cert claim. inductive_for number spec cert claim;
    callees_supported = All-append (IsSupported program Claimed) (own_callees key.procs answer.procs) key.callees
        (each_own (IsSupported program Claimed) key.procs answer.procs own)
        (All-weaker (IsValidCallee program) (IsSupported program Claimed) outer key.callees stands.outer);
  }
    where
      inductive_for : (number : ℕ) (spec : Spec) (cert : Cert) → Claimed number spec cert →
          IsInductiveFor program (usable_callees key answer) number spec cert
      inductive_for number spec cert claim = record {
        proc = claim.proc;
        is_proc = found_stands program claim.flow.name number claim.proc claim.found;
        logical = rw claim.same claim.logical;
        inductive = rw claim.same claim.inductive;
      }

      own : (place : ℕ) (flow : Flow) (summary : ProcSummary) → slice_get key.procs place ≡ Some flow →
          slice_get answer.procs place ≡ Some summary →
          IsSupported program Claimed (callee_with flow summary)
      own place flow summary is_flow is_summary =
          let stood : HasFlow program flow = All-at (HasFlow program) key.procs place flow stands.own is_flow in record {
            number = stood.number;
            proc = stood.proc;
            found = stood.found;
            params = ap (λ (one : Flow). one.params) stood.same;
            specs = each_place (λ spec. Valid program stood.number spec ⊎ ((cert : Cert) × Claimed stood.number spec cert)) summary.specs
                (λ at spec is_spec. inr
                (claimed flow summary (place, (is_flow, is_summary)) stood.number stood.proc stood.found at spec is_spec));
          }

      outer : (callee : Callee) → IsValidCallee program callee → IsSupported program Claimed callee
      outer callee valid = record {
        number = valid.number;
        proc = valid.proc;
        found = valid.found;
        params = valid.params;
        specs =
            All-weaker (Valid program valid.number)
            (λ spec. Valid program valid.number spec ⊎ ((cert : Cert) × Claimed valid.number spec cert))
            (λ spec is. inl is) callee.specs valid.valid;
      }

  all_valid : AreValidIn program key answer
  all_valid flow summary summarizes number proc found =
      each_place (Valid program number) summary.specs
      (λ at spec is_spec.
      let claim = claimed flow summary summarizes number proc found at spec is_spec in
      claimed_is_valid program (usable_callees key answer) Claimed supported number spec claim.0 claim.1)

pub answer_is_valid : AnswerIsValid
answer_is_valid limits program key answer is_key stands certified = all_valid limits program key answer is_key stands certified
