-- A state goes on where its cases do: with the successors and the exits of all of them.
use Rattle.std.specs.Prelude.{ℕ, List, [], ◌∷◌, ◌++◌, All}
use Rattle.std.proofs.lemmas.List.Elements.{All-append, All-cons, All-head, All-nil, All-tail, All-weaker}
use Rattle.shape_data.specs.declared.answer.Callee.{Callee}
use Rattle.shape_data.specs.declared.program.Cmd.{Cmd}
use Rattle.shape_data.specs.declared.program.Program.{Program}
use Rattle.shape_data.specs.declared.symbolic.Cert.{Cert}
use Rattle.shape_data.specs.declared.symbolic.Post.{Post}
use Rattle.shape_data.specs.declared.symbolic.SymState.{SymState}
use Rattle.sound_laws.specs.Certificates.{states_at, CasesGoOn, GoesOn}
use Rattle.sound_laws.specs.Leading.{PostLeads, RowIsSound, StateLeads}
use Rattle.sound_laws.proofs.LeadingLemmas.{cases_do, row_may_weaken, MeetsNext-left, MeetsNext-right, MeetsOne-left, MeetsOne-right}

module _ (program : Program) (callees : List Callee) (cert : Cert) (command : Cmd) where
  abbrev IsCovered : ℕ × SymState → Type 0
  IsCovered next = StateLeads program.structs next.1 (states_at cert next.0)

  abbrev IsLeft : Post → Type 0
  IsLeft exit = PostLeads program.structs exit cert.exits

  -- one list of successors and one of exits for all the cases
  record AllGoOn (cases : List SymState) : Type 0 where
    nexts : List (ℕ × SymState)
    exits : List Post
    rows : All (λ case. RowIsSound program callees case command nexts exits) cases
    covered : All IsCovered nexts
    left : All IsLeft exits

  all_go_on : (cases : List SymState) → All (GoesOn program callees cert command) cases → AllGoOn cases
  all_go_on [] each =
      record {
        nexts = [];
        exits = [];
        rows = All-nil (λ case. RowIsSound program callees case command [] []);
        covered = All-nil IsCovered;
        left = All-nil IsLeft;
      }
  all_go_on (case ∷ cases) each =
      let first = All-head (GoesOn program callees cert command) case cases each in
      let others = all_go_on cases (All-tail (GoesOn program callees cert command) case cases each) in
      let nexts = first.nexts ++ others.nexts in
      let exits = first.exits ++ others.exits in
      let of_first : RowIsSound program callees case command nexts exits =
      row_may_weaken program callees case command first.nexts nexts first.exits exits first.executed
      (λ s node locals heap meets. MeetsNext-left program.structs s node locals heap first.nexts others.nexts meets)
      (λ s value heap meets. MeetsOne-left program.structs s value heap first.exits others.exits meets) in
      let of_others : All (λ case. RowIsSound program callees case command nexts exits) cases =
      All-weaker (λ case. RowIsSound program callees case command others.nexts others.exits)
      (λ case. RowIsSound program callees case command nexts exits)
      (λ other row. row_may_weaken program callees other command others.nexts nexts others.exits exits row
      (λ s node locals heap meets. MeetsNext-right program.structs s node locals heap first.nexts others.nexts meets)
      (λ s value heap meets. MeetsOne-right program.structs s value heap first.exits others.exits meets))
      cases others.rows in record {
        nexts = nexts;
        exits = exits;
        rows = All-cons (λ case. RowIsSound program callees case command nexts exits) case cases of_first of_others;
        covered = All-append IsCovered first.nexts others.nexts first.covered others.covered;
        left = All-append IsLeft first.exits others.exits first.left others.left;
      }

pub cases_go_on : CasesGoOn
cases_go_on program callees cert command state cases leads each =
    let all = all_go_on program callees cert command cases each in record {
      nexts = all.nexts;
      exits = all.exits;
      executed = cases_do program callees state cases command all.nexts all.exits leads all.rows;
      covered = all.covered;
      left = all.left;
    }
