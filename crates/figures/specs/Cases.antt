-- The items, arcs and lines of the worked figures.
use Rattle.std.specs.Prelude.{ℕ, List, [], ◌∷◌}
use Rattle.model.specs.declared.arc.Arc.{Arc}
use Rattle.model.specs.declared.item.Item.{Item}
use Rattle.model.specs.declared.times.Times.{Times}
use Rattle.promise.specs.declared.outcome.Line.{Line}
use Rattle.promise.specs.Calls.{joined}

-- class, priority, size, period and duration of an item; its deadline is its period, and all else is 0
abbrev pub plain : ℕ → ℕ → ℕ → ℕ → ℕ → Item
plain class priority size period duration =
    record {
      class = class;
      station = 0;
      mark = 0;
      priority = priority;
      queue = 0;
      size = size;
      period = period;
      duration = duration;
      held = 0;
      offset = 0;
      deadline = period;
    }

-- the same with another mark, queue and offset
abbrev pub altered : ℕ → ℕ → ℕ → Item → Item
altered mark queue offset x =
    record {
      class = x.class;
      station = x.station;
      mark = mark;
      priority = x.priority;
      queue = queue;
      size = x.size;
      period = x.period;
      duration = x.duration;
      held = x.held;
      offset = offset;
      deadline = x.deadline;
    }

-- released at its offset and at no other time
abbrev pub fixed_at : ℕ → Item → Item
fixed_at offset x = altered 1 x.queue offset x

-- released at its offset or later
abbrev pub starting_at : ℕ → Item → Item
starting_at offset x = altered 0 x.queue offset x

abbrev pub in_queue : ℕ → Item → Item
in_queue queue x = altered x.mark queue x.offset x

-- two processes, of which the weaker runs for a given duration
abbrev pub processes : ℕ → List Item
processes duration = plain 2 1 0 50 10 ∷ plain 2 2 0 100 duration ∷ []

-- two CAN messages, the stronger of 8 bytes, the weaker of none
abbrev pub frames : List Item
frames = plain 3 1 8 2500 270 ∷ plain 3 2 0 2500 110 ∷ []

-- times that may be handed to the rule with these two: of the stronger as given, while the weaker waits 270
abbrev pub coming_late : ℕ → ℕ → List Times
coming_late late wait = record { late = late; wait = wait } ∷ record { late = 0; wait = 270 } ∷ []

-- two messages through the gateway: one of 5 bytes, and a weaker one of a given size
abbrev pub messages : ℕ → List Item
messages size = plain 4 1 5 10000 250 ∷ plain 4 2 size 10000 250 ∷ []

-- Six items through all four classes: read by a table, told over CAN, picked on a processor, sent back over CAN,
-- passed through the gateway, and pushed out by a table.
abbrev pub read : Item
read = fixed_at 1000 (plain 1 1 0 10000 500)

abbrev pub tell : Item
tell = starting_at 1500 (plain 3 1 4 10000 190)

abbrev pub pick : Item
pick = plain 2 1 0 10000 400

abbrev pub back : Item
back = in_queue 1 (plain 3 2 2 10000 150)

abbrev pub gate : Item
gate = plain 4 1 2 10000 250

abbrev pub push_at : ℕ → Item
push_at offset = fixed_at offset (plain 1 2 0 10000 300)

-- the six, of which the last is pushed at a given offset
abbrev pub six_items : ℕ → List Item
six_items push = read ∷ tell ∷ pick ∷ back ∷ gate ∷ push_at push ∷ []

-- each needs what the one before it delivers
abbrev pub six_arcs : List Arc
six_arcs = joined 0 1 ∷ joined 1 2 ∷ joined 2 3 ∷ joined 3 4 ∷ joined 4 5 ∷ []

-- number, late, wait and end
abbrev pub line : ℕ → ℕ → ℕ → ℕ → Line
line number late wait end = record { number = number; late = late; wait = wait; end = end }

-- the lines of the six, the last of them given
abbrev pub six_lines : Line → List Line
six_lines last =
    line 0 1000 0 1500
    ∷ line 1 1500 150 1840
    ∷ line 2 1840 0 2240
    ∷ line 3 2240 190 2580
    ∷ line 4 2580 2000 4830
    ∷ last
    ∷ []
