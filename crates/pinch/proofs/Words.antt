-- The words and lemmas from elsewhere that the proofs of this crate speak in, passed on from one place. Declares nothing.
pub use Rattle.commands.specs.Answers.{Shows, ShowsCommand}
pub use Rattle.commands.specs.Files.{FromText, NoFile, NoText, by_text, failed, no_file, no_text, refused, too_long}
unfoldable pub use Rattle.commands.specs.Files.{EndsIn}
pub use Rattle.commands.specs.Formats.{Format}
pub use Rattle.commands.specs.Reading.{Reading, file, ready, stop, wanted}
unfoldable pub use Rattle.commands.specs.Reading.{reading_of}
pub use Rattle.commands.specs.Status.{number_of, status_of}
pub use Rattle.commands.specs.declared.request.Request.{Request}
pub use Rattle.commands.specs.declared.status.Status.{Status}
pub use Rattle.commands.specs.declared.status.Status.TheVariants.{OutOfMemory, WriteFault}
pub use Rattle.pinch_outside.specs.Shelf.{IsWhole, KeepsFiles, ShelfState}
pub use Rattle.pinch_outside.specs.declared.limits.TheConstants.{MAX_FILE}
pub use Rattle.reports.specs.declared.shown.FileRole.{FileRole}
pub use Rattle.reports.specs.declared.shown.Shown.{Shown}
pub use Rattle.reports.specs.declared.shown.Shown.TheVariants.{SiteShown}
pub use Rattle.std.proofs.lemmas.Iterator.Adapters.{YieldsList-from_skip, YieldsList-from_vec}
pub use Rattle.std.proofs.lemmas.Iterator.Consumers.{YieldsList-end}
pub use Rattle.std.proofs.lemmas.List.{map-id}
pub use Rattle.std.specs.Iterator.Adapters.{skip_count, skip_source}
pub use Rattle.std.specs.Prelude.{⊤}
pub use Rattle.std.specs.Vec.Iter.{into_iter_items}
