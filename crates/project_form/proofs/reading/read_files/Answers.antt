-- One file more is read.
use Rattle.std.proofs.Common.{◌≡◌, ◌+◌, ◌<◌, List, [], ◌∷◌, ◌++◌, length, take, get_or, set, refl, sym, subst, rules}
use Rattle.std.proofs.lemmas.List.{take_more_set}
use Rattle.project_form.specs.Kept.{KeptFile, Follows}
use Rattle.project_form.specs.Parts.{AreNoted}
use Rattle.project_form.proofs.Units.{follow-themselves, follow-set, follow-sources, noted-more}
use Rattle.project_form.proofs.reading.read_files.Goals as goal

pub loop-place-init : goal.loop-place-init
loop-place-init c = record {
  noted = record { readings = []; are = tt; tokens = refl; syntax = refl };
  follow = follow-themselves c.args.files.now.items;
}

pub loop-place-preserved : goal.loop-place-preserved
loop-place-preserved c =
    let files = c.loop-place.files.items in
    let place = c.loop-place.place in
    let one = c.read_file.new.file in
    let inside : place < length files = search rules in
    let is : Follows (get_or files place c.index_mut.result.now) one =
    subst (λ (kept : KeptFile). Follows kept one) c.index_mut.ensures.value c.read_file.ensures.follows in
    let front : take (place + 1) (set files place one) ≡ take place files ++ one ∷ [] = take_more_set files place one inside in
    record {
      noted = subst (λ (all : List KeptFile). AreNoted all c.read_file.new.firsts) (sym front)
          (noted-more (take place files) one c.loop-place.firsts c.read_file.new.firsts c.loop-place.invariant.noted
          c.in_ok-read_file.ensures.noted);
      follow = follow-set c.args.files.now.items files place c.index_mut.result.now one inside c.loop-place.invariant.follow is;
    }

pub returns-in_err-read_file-clause-follow : goal.returns-in_err-read_file-clause-follow
returns-in_err-read_file-clause-follow c =
    let files = c.loop-place.files.items in
    let place = c.loop-place.place in
    let one = c.read_file.new.file in
    let inside : place < length files = search rules in
    let is : Follows (get_or files place c.index_mut.result.now) one =
    subst (λ (kept : KeptFile). Follows kept one) c.index_mut.ensures.value c.read_file.ensures.follows in
    follow-set c.args.files.now.items files place c.index_mut.result.now one inside c.loop-place.invariant.follow is

pub returns-in_err-read_file-clause-files : goal.returns-in_err-read_file-clause-files
returns-in_err-read_file-clause-files c =
    let files = c.loop-place.files.items in
    let place = c.loop-place.place in
    let one = c.read_file.new.file in
    let inside : place < length files = search rules in
    let is : Follows (get_or files place c.index_mut.result.now) one =
    subst (λ (kept : KeptFile). Follows kept one) c.index_mut.ensures.value c.read_file.ensures.follows in
    follow-sources c.args.files.now.items (set files place one)
    (follow-set c.args.files.now.items files place c.index_mut.result.now one inside c.loop-place.invariant.follow is)

pub returns-clause-files : goal.returns-clause-files
returns-clause-files c = follow-sources c.args.files.now.items c.loop-place.files.items c.loop-place.invariant.follow
