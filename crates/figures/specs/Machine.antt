-- The machine of the worked figures: station 0 of each class, and what its bank means.
use Rattle.std.specs.Prelude.{List, replicate, Some, None, Option, slice_set}
use Rattle.promise.specs.State.{Meaning}
use Rattle.rules.specs.declared.can.Bus.{Bus}
use Rattle.rules.specs.declared.gateway.Slot.{Slot}
use Rattle.rules.specs.All.{AllClasses, all_admits, all_wait, all_load}

-- 2 ticks per bit
abbrev pub bus : Bus
bus = record { ticks_per_bit = 2 }

abbrev pub slot : Slot
slot = record { round = 1000; length = 250; capacity = 8 }

-- the stations of a class that has but station 0
abbrev pub only_first : {T : Type 0} → T → List (Option T)
only_first figures = slice_set (replicate 8 None) 0 (Some figures)

abbrev pub cell_bank : AllClasses
cell_bank =
    record {
      front = record { stations = record { figures = only_first tt } };
      behind = record {
        front = record { stations = record { figures = only_first tt } };
        behind = record {
          front = record { stations = record { figures = only_first bus } };
          behind = record { front = record { stations = record { figures = only_first slot } }; behind = record {} };
        };
      };
    }

abbrev pub machine : Meaning
machine = record { admits = all_admits cell_bank; wait = all_wait cell_bank; load = all_load cell_bank }
