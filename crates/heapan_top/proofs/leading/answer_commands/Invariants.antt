-- The replies so far lead from the beginning to where the session is; each command is one fewer.
use Rattle.std.proofs.Common.{◌≡◌, ◌-◌, ◌≤◌, map}
use Rattle.reporters.specs.Feeding.{steady_count}
use Rattle.session_lines.specs.Reading.{stream_left}
use Rattle.heapan_top.specs.Headline.{ReadsFront}
use Rattle.heapan_top.specs.Parts.{IsDone, IsFedOn, IsUnderWay, course_of, path_bytes, setting_of}
use Rattle.heapan_top.specs.Stores.{KeepsOthers, path_told}
use Rattle.heapan_top.proofs.leading.answer_commands.Given as goal

abbrev pub invariant-loop-status : goal.invariant-loop-status
invariant-loop-status g l = record {
  under_way : IsUnderWay (setting_of l.fn.loaded.value l.fn.path) (g.S.Source.left l.fn.source) (g.K.Sink.held l.fn.sink)
      (course_of l.commands l.session) (stream_left l.commands (g.S.Source.left l.source)) (g.K.Sink.held l.sink);
  done : IsDone (setting_of l.fn.loaded.value l.fn.path) (g.S.Source.left l.fn.source) (g.K.Sink.held l.fn.sink)
      (course_of l.commands l.session) (stream_left l.commands (g.S.Source.left l.source)) (g.K.Sink.held l.sink) l.hands.seen;
  fed :
      IsFedOn (setting_of l.fn.loaded.value l.fn.path) (g.S.Source.left l.fn.source) (g.K.Sink.held l.fn.sink)
      (course_of l.commands l.session) (stream_left l.commands (g.S.Source.left l.source)) (g.K.Sink.held l.sink)
      (path_told (g.P.Keeper.kept l.fn.keeper) (path_bytes l.fn.path)) (path_told (g.P.Keeper.kept l.keeper) (path_bytes l.fn.path))
      (l.reporters.items ≡ l.fn.reporters.items)
      (map (λ one. (goal.Reporter-dyn g (one.vtable, one.value)).known one.value) l.fn.reporters.items)
      (map (λ one. (goal.Reporter-dyn g (one.vtable, one.value)).known one.value) l.reporters.items);
  steady :
      steady_count (map (λ one. (goal.Reporter-dyn g (one.vtable, one.value)).known one.value) l.reporters.items)
      ≡ steady_count (map (λ one. (goal.Reporter-dyn g (one.vtable, one.value)).known one.value) l.fn.reporters.items);
  setting : l.session.setting ≡ setting_of l.fn.loaded.value l.fn.path;
  others : KeepsOthers (path_bytes l.fn.path) (g.P.Keeper.kept l.fn.keeper) (g.P.Keeper.kept l.keeper);
  reads : ReadsFront (g.S.Source.left l.fn.source) (stream_left l.commands (g.S.Source.left l.source));
  reads_never_fall : g.S.Source.faults l.fn.source ≤ g.S.Source.faults l.source;
  writes_never_fall : g.K.Sink.faults l.fn.sink ≤ g.K.Sink.faults l.sink;
  stores_never_fall : g.P.Keeper.faults l.fn.keeper ≤ g.P.Keeper.faults l.keeper;
}

abbrev pub decreases-loop-status : goal.decreases-loop-status
decreases-loop-status g l = 65536 - l.commands.taken
