-- The calls as they were made, by what they replied. Assumes nothing.
use Rattle.std.specs.Prelude.{ℕ, List, [], length, take, Ok, Err, Result}
use Rattle.record.specs.declared.Car.{Car}
use Rattle.record.specs.declared.Note.{Note}
use Rattle.plan.specs.declared.Counts.{Counts}
use Rattle.engine.specs.declared.Fed.{Fed}
use Rattle.cars.specs.declared.CarFault.{CarFault}
use Rattle.cars.specs.declared.FeedFault.{FeedFault}
use Rattle.cars.specs.Refusals.{of_car, of_feed}
use Rattle.memories.specs.declared.Shown.{Shown}
use Rattle.book.specs.Calls.{Answer, refused, planned, fed, shown, Event, set, feed, query}
use Rattle.watch.specs.declared.fault.SetFault.{SetFault}
use Rattle.watch.specs.Refusals.{of_set}

abbrev pub set_answer : Result Counts SetFault → Answer
set_answer (Ok n) = planned n
set_answer (Err e) = refused (of_set e)

abbrev pub set_made : List ℕ → List Car → Result Counts SetFault → Event
set_made t cs r = record { call = set t cs; notes = []; answer = set_answer r }

abbrev pub feed_answer : Result Fed FeedFault → Answer
feed_answer (Ok f) = fed f.notes f.ticks
feed_answer (Err e) = refused (of_feed e)

-- how many notes the reply says
abbrev pub notes_told : Result Fed FeedFault → ℕ
notes_told (Ok f) = f.notes
notes_told (Err e) = 0

abbrev pub feed_made : List ℕ → List Note → Result Fed FeedFault → Event
feed_made bytes places r = record { call = feed bytes (length places); notes = take (notes_told r) places; answer = feed_answer r }

abbrev pub query_answer : Result Shown CarFault → Answer
query_answer (Ok s) = shown s.mark s.count
query_answer (Err e) = refused (of_car e)

abbrev pub query_made : Car → ℕ → ℕ → Result Shown CarFault → Event
query_made c row d r = record { call = query c row d; notes = []; answer = query_answer r }
