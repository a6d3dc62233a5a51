-- What is shown in the end or early, and how reading ends.
use Rattle.std.specs.Prelude.{⊤, Result, Ok, Err}
use Rattle.pinch_outside.specs.Shelf.{ShelfState}
use Rattle.reports.specs.declared.shown.Shown.{Shown}
use Rattle.commands.specs.Files.{EndsIn}
use Rattle.commands.specs.Reading.{Reading, WantsFile}
use Rattle.commands.specs.declared.request.Request.{Request}
use Rattle.commands.specs.declared.stop.Stop.{Stop}
use Rattle.commands.specs.declared.stop.Stop.TheVariants.{Early, OutOfMemory}

-- what is shown early, if memory was found
abbrev pub IfEarly : Stop → (Shown → Type 0) → Type 0
IfEarly (Early shown) P = P shown
IfEarly OutOfMemory P = ⊤

-- what is so where memory was wanted
abbrev pub IfNoMemory : Stop → Type 0 → Type 0
IfNoMemory (Early shown) P = ⊤
IfNoMemory OutOfMemory P = P

-- this was read, up to a request, or to what is shown in its place. Memory is wanted only where a file is read
abbrev pub Reads : Reading → ShelfState → ShelfState → Result Request Stop → Type 0
Reads reading old new (Ok request) = EndsIn reading old new (Ok request)
Reads reading old new (Err (Early shown)) = EndsIn reading old new (Err shown)
Reads reading old new (Err OutOfMemory) = WantsFile reading
