-- A call as the code has it: what it is made with, and how a spec fits.
use Rattle.std.specs.Prelude.{◌≡◌, ◌≤◌, length, All}
use Rattle.shape_data.specs.declared.symbolic.Post.{Post}
use Rattle.shape_data.specs.WellFormed.{IsExp, IsState, IsSymHeap, widest}
use Rattle.sym_canon.specs.declared.parts.Pair.{Pair}
use Rattle.sym_matching.specs.Rooms.{IsWithinSizes}
use Rattle.sym_matching.specs.Renaming.Sizes.{AreSmall}
use Rattle.exec_laws.specs.Calling as calling
use Rattle.exec_laws.specs.Pairs.{Setting, new_logical, pair_variables}
use Rattle.sym_exec.specs.declared.calls.Caller.{Caller}
use Rattle.sym_exec.specs.declared.calls.Fit.{Fit}
use Rattle.exec_cells.specs.InSetting.{IsGood}

-- a pair that is executed: a well-formed state, and a well-formed missing heap
pub record IsGiven (setting : Setting) (pair : Pair) : Type 0 where
  pub state : IsState widest setting.structs setting.params (length pair.state.locals) pair.state
  pub slots : length pair.state.locals ≤ 32768
  pub missing : IsSymHeap widest setting.structs setting.params pair.missing

-- what a call is made with: a given pair, its variables, the number from which on logical variables are new, and few well-formed
-- arguments
pub record IsCaller (setting : Setting) (caller : Caller) : Type 0 where
  pub good : IsGood setting
  pub used : caller.used.now ≡ pair_variables caller.pair.now
  pub small : AreSmall caller.used.now
  pub few : length caller.used.now ≤ 300000000
  pub first : caller.first ≡ new_logical setting.params caller.pair.now
  pub low : caller.first ≤ 65536
  pub given : IsGiven setting caller.pair.now
  pub args : All (IsExp widest setting.params) caller.args.now
  pub few_args : length caller.args.now ≤ 32768

-- the definitions' fit
abbrev pub fit_in : Fit → calling.Fit
fit_in fit = record { missing = fit.missing; frame = fit.frame; apart = fit.apart; binding = fit.binding; posts = fit.posts.now }

-- a fit leaves room for the new variables of its posts
pub record IsRoomy (caller : Caller) (fit : Fit) : Type 0 where
  pub used : length (calling.in_use caller.pair.now (fit_in fit)) ≤ 1073741824
  pub binding : length fit.binding ≤ 268435456
  pub posts : All (λ (post : Post). IsWithinSizes post.heap) fit.posts.now
