use Rattle.std.proofs.Common.{◌≡◌, ℕ, ◌+◌, ◌≤◌, take, List, Some, vec_len}
use Rattle.bridge_io.specs.Outside.{Told, content_of, RoseBy}
use Rattle.bridge_io.proofs.reading.gather.Given as goal

abbrev pub invariant-loop-turn : goal.invariant-loop-turn
invariant-loop-turn g l = record {
  turns : l._turn ≤ vec_len l.bytes;
  within : vec_len l.bytes ≤ l.limit;
  told : g.F.Files.told l.files ≡ g.F.Files.told l.initial.files;
  faults : g.F.Files.faults l.initial.files ≤ g.F.Files.faults l.files;
  absences : g.F.Files.absences l.initial.files ≤ g.F.Files.absences l.files;
  given : RoseBy (vec_len l.bytes) (g.F.Files.given l.initial.files) (g.F.Files.given l.files);
  given_on : g.F.Files.given l.initial.files ≤ g.F.Files.given l.files;
  calls : g.F.Files.calls l.files ≤ g.F.Files.calls l.initial.files + l._turn;
  front : (map : Told) (content : List ℕ) → g.F.Files.told l.initial.files ≡ Some map →
      content_of map l.name ≡ Some content → l.bytes.items ≡ take (vec_len l.bytes) content;
}
