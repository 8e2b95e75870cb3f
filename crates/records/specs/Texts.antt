-- What is printed of a station and of an item.
use Rattle.std.specs.Prelude.{ℕ, List, ◌++◌, codes, decimal}
use Rattle.records.specs.declared.record.Figures.{Figures}
use Rattle.records.specs.declared.record.Figures.TheVariants.{Table, Processor, Can, Gateway}
use Rattle.records.specs.declared.record.ItemRecord.{ItemRecord}
use Rattle.records.specs.declared.record.StationRecord.{StationRecord}

abbrev pub figures_text : Figures → List ℕ
figures_text Table = codes "table"
figures_text Processor = codes "processor"
figures_text (Can bus) = codes "can ticks " ++ decimal bus.ticks_per_bit
figures_text (Gateway slot) = codes "gateway round " ++ (decimal slot.round ++ (codes " slot " ++ (decimal slot.length ++ (codes " capacity " ++ decimal slot.capacity))))

abbrev pub station_text : StationRecord → List ℕ
station_text s = codes "station " ++ (decimal s.station ++ (codes " " ++ figures_text s.figures))

-- the name, then each field behind its word
abbrev pub item_text : ItemRecord → List ℕ
item_text i =
    i.name.now
    ++ (codes " class " ++ (decimal i.item.class
    ++ (codes " station " ++ (decimal i.item.station
    ++ (codes " mark " ++ (decimal i.item.mark
    ++ (codes " priority " ++ (decimal i.item.priority
    ++ (codes " queue " ++ (decimal i.item.queue
    ++ (codes " size " ++ (decimal i.item.size
    ++ (codes " period " ++ (decimal i.item.period
    ++ (codes " duration " ++ (decimal i.item.duration
    ++ (codes " held " ++ (decimal i.item.held
    ++ (codes " offset " ++ (decimal i.item.offset
    ++ (codes " deadline " ++ decimal i.item.deadline)))))))))))))))))))))
