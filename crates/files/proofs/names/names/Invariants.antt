use Rattle.std.proofs.Common.{◌≡◌, map, length}
use Rattle.files.specs.Process.{names_of}
use Rattle.files.proofs.Filling.{HasFirst}
use Rattle.files.proofs.names.names.Given as goal

-- the names so far stand there
abbrev pub invariant-loop-place : goal.invariant-loop-place
invariant-loop-place l = (length l.names ≡ 64) × HasFirst (map (λ n. n.now) l.names) (length l.yielded) (names_of l.file)
