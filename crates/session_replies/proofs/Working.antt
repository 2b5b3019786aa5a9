-- How much was done for a reply that tells of components.
use Rattle.std.proofs.Common.{◌≡◌, ℕ, ◌≤◌, true, false, Option, Some, None, List, Ok, Err, refl, sym, ap, ◌∙◌, subst, is_some}
use Rattle.std.specs.List.{position}
use Rattle.shape_data.specs.declared.program.Program.{Program}
use Rattle.summary_book.specs.declared.aims.Aim.{Aim}
use Rattle.summary_book.specs.declared.aims.Aim.TheVariants.{All, One}
use Rattle.session_generator.specs.Generated.{generated}
use Rattle.session_lines.specs.declared.command.Command.TheVariants as command
use Rattle.project_form.specs.declared.fault.Refused.{Refused}
use Rattle.project_form.specs.Files.{put_refusal, with_file}
use Rattle.project_form.specs.Laws.{HaveOneAnswer}
use Rattle.project_form.specs.Reads.{Reads}
use Rattle.session_replies.specs.Answers.{GENERATED, Present, unless_refused, with_put}
use Rattle.session_replies.specs.Texts.{is_named}
use Rattle.session_replies.specs.Work.{IsWorked, count_reached}

-- ---- what the files are

module _ (once : HaveOneAnswer) (present : Present) (program : Program) (reads : Reads present.files (Ok program)) where
  -- they are no other program
  same_program : (other : Program) → Reads present.files (Ok other) → program ≡ other
  same_program other is =
      let same : Ok program ≡ Ok other = once present.files (Ok program) (Ok other) reads is in
      let alike : program ≡ other = cc in
      alike

  pub show_worked : (seen : ℕ) (name : List ℕ) →
      (is_some (position (is_named name) program.procs) ≡ true → count_reached program (One name) ≤ seen) →
      IsWorked present (command.Show name) seen
  show_worked seen name worked other aim (aim_is, is, defined) =
      let same = same_program other is in
      subst (λ (a : Aim). count_reached other a ≤ seen) (sym aim_is)
      (subst (λ (p : Program). count_reached p (One name) ≤ seen) same
      (worked (subst (λ (p : Program). is_some (position (is_named name) p.procs) ≡ true) (sym same) defined)))

  pub report_worked : (seen : ℕ) → count_reached program All ≤ seen → IsWorked present command.Report seen
  report_worked seen worked other aim (aim_is, is) =
      subst (λ (a : Aim). count_reached other a ≤ seen) (sym aim_is)
      (subst (λ (p : Program). count_reached p All ≤ seen) (same_program other is) worked)

  pub save_worked : (seen : ℕ) → count_reached program All ≤ seen → IsWorked present command.Save seen
  save_worked seen worked other aim (aim_is, saves, is) = report_worked seen worked other aim (aim_is, is)

  pub total_worked : (seen : ℕ) → count_reached program All ≤ seen → (other : Program) → Reads present.files (Ok other) →
      count_reached other All ≤ seen
  total_worked seen worked other is = subst (λ (p : Program). count_reached p All ≤ seen) (same_program other is) worked

-- files that are refused are no program
module _ (once : HaveOneAnswer) (present : Present) (refused : Refused) (reads : Reads present.files (Err refused)) where
  never : {A : Type 0} (other : Program) → Reads present.files (Ok other) → A
  never other is = let clash : Err refused ≡ Ok other = once present.files (Err refused) (Ok other) reads is in absurd cc

  pub show_refused : (seen : ℕ) (name : List ℕ) → IsWorked present (command.Show name) seen
  show_refused seen name other aim (aim_is, is, defined) = never other is

  pub report_refused : (seen : ℕ) → IsWorked present command.Report seen
  report_refused seen other aim (aim_is, is) = never other is

  pub save_refused : (seen : ℕ) → IsWorked present command.Save seen
  save_refused seen other aim (aim_is, saves, is) = never other is

  pub total_refused : (seen : ℕ) (other : Program) → Reads present.files (Ok other) → count_reached other All ≤ seen
  total_refused seen other is = never other is

-- there is no store
pub save_nowhere : (present : Present) (seen : ℕ) → present.setting.saves ≡ false → IsWorked present command.Save seen
save_nowhere present seen none other aim (aim_is, saves, is) = let clash : true ≡ false = sym saves ∙ none in absurd cc

-- the generated file was put
pub gen_worked : (present mid : Present) (n : ℕ) (name bytes : List ℕ) (seen : ℕ) → name ≡ GENERATED → bytes ≡ generated n →
    mid ≡ with_put name bytes present →
    ((other : Program) → Reads mid.files (Ok other) → count_reached other All ≤ seen) → IsWorked present (command.Gen n) seen
gen_worked present mid n name bytes seen named made put worked other aim (aim_is, may, is) =
    let there : mid.files ≡ with_file GENERATED (generated n) present.files =
    ap (λ (p : Present). p.files) put ∙ ap (λ xs. (with_put xs bytes present).files) named
    ∙ ap (λ xs. (with_put GENERATED xs present).files) made ∙
    put_so (put_refusal GENERATED (generated n) present.files) may in
    subst (λ (a : Aim). count_reached other a ≤ seen) (sym aim_is)
    (worked other (subst (λ files. Reads files (Ok other)) (sym there) is))
  where
    put_so : (refusal : Option ℕ) → refusal ≡ None →
        unless_refused refusal (with_file GENERATED (generated n) present.files) present.files
        ≡ with_file GENERATED (generated n) present.files
    put_so None e = refl
    put_so (Some code) e = cc

-- it was refused
pub gen_not_worked : (present : Present) (n code : ℕ) (name bytes : List ℕ) (seen : ℕ) → name ≡ GENERATED → bytes ≡ generated n →
    Some code ≡ put_refusal name bytes present.files → IsWorked present (command.Gen n) seen
gen_not_worked present n code name bytes seen named made refused other aim (aim_is, may, is) =
    let clash : Some code ≡ None = refused ∙ ap (λ xs. put_refusal xs bytes present.files) named
    ∙ ap (λ xs. put_refusal GENERATED xs present.files) made ∙ may in
    absurd (apart clash)
  where
    apart : Some code ≡ None → ⊥
    apart e = cc
