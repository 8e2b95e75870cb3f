-- A record is refused by a question of the file, and by no call.
use Rattle.std.proofs.Common.{ℕ, ◌≤◌, List, Some, None, Ok, Err, Option, Result, arith}
use Rattle.std.specs.Result.{IfErr}
use Rattle.records.specs.declared.fault.Refusal.{Refusal}
use Rattle.records.specs.declared.fault.SourceFile.{SourceFile}
use Rattle.records.specs.declared.record.Figures.{Figures}
use Rattle.records.specs.Bytes.{Cut, cut_of}
use Rattle.records.specs.Faults.{number_of}
use Rattle.records.specs.Records.{then, read_of, whole_of, record_of}
use Rattle.records.specs.Stations.{in_range}

abbrev pub Own : {X : Type 0} → Result X Refusal → Type 0
Own r = IfErr r (λ e. number_of e ≤ 7)

pub then_own : {X Y : Type 0} (r : Result X Refusal) (f : X → Result Y Refusal) → Own r → ((x : X) → Own (f x)) → Own (then r f)
then_own (Ok x) f h on = on x
then_own (Err e) f h on = h

in_range_own : (n : ℕ) (f : Option Figures) → Own (in_range n f)
in_range_own n f = grind arith

read_own : (file : SourceFile) (kind : ℕ) (bs : List ℕ) → Own (read_of file kind bs)
read_own file kind bs = grind arith

whole_own : (file : SourceFile) (c : Option Cut) → Own (whole_of file c)
whole_own file None = omega arith
whole_own file (Some c) = then_own (read_of file c.kind c.body) _ (read_own file c.kind c.body) (λ s. tt)

pub record_own : (file : SourceFile) (bs : List ℕ) → Own (record_of file bs)
record_own file bs = whole_own file (cut_of bs)
