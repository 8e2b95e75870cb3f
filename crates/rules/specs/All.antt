-- What the bank of all classes means: each item is answered by its class.
use Rattle.std.specs.Prelude.{Bool, false}
use Rattle.bank.specs.declared.bank.Bank.{Bank}
use Rattle.bank.specs.declared.bank.EmptyBank.{EmptyBank}
use Rattle.bank.specs.Bank.{by_class, chosen}
use Rattle.model.specs.declared.item.Item.{Item}
use Rattle.model.specs.Laws.{Reckoning}
use Rattle.rules.specs.declared.can.Can.{Can}
use Rattle.rules.specs.declared.gateway.Gateway.{Gateway}
use Rattle.rules.specs.declared.processor.Processor.{Processor}
use Rattle.rules.specs.declared.table.Table.{Table}
use Rattle.rules.specs.Can.{can_admits, can_wait, can_load}
use Rattle.rules.specs.Gateway.{gateway_admits, gateway_wait, gateway_load}
use Rattle.rules.specs.Processor.{processor_admits, processor_wait}
use Rattle.rules.specs.Table.{table_admits}

abbrev pub AllClasses : Type 0
AllClasses = Bank Table (Bank Processor (Bank Can (Bank Gateway EmptyBank)))

abbrev pub all_admits : AllClasses → Item → Bool
all_admits b x =
    by_class 1 x (table_admits b.front.stations.figures x)
    (by_class 2 x (processor_admits b.behind.front.stations.figures x)
    (by_class 3 x (can_admits b.behind.behind.front.stations.figures x)
    (by_class 4 x (gateway_admits b.behind.behind.behind.front.stations.figures x) false)))

abbrev pub nothing : Reckoning
nothing items times i = 0

abbrev pub all_wait : AllClasses → Reckoning
all_wait b = chosen 1 nothing (chosen 2 processor_wait (chosen 3 can_wait (chosen 4 (gateway_wait b.behind.behind.behind.front.stations.figures) nothing)))

abbrev pub all_load : AllClasses → Reckoning
all_load b = chosen 1 nothing (chosen 2 nothing (chosen 3 can_load (chosen 4 gateway_load nothing)))
