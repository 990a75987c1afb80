-- Why a call that leads a tour refuses, where the tour ended early. Assumes nothing.
use Rattle.refusals.specs.declared.Why.{Why}
use Rattle.refusals.specs.declared.Why.TheVariants.{VisitorRefused}
use Rattle.tours.specs.declared.stop.Stop.{Stop}
use Rattle.tours.specs.declared.stop.Stop.TheVariants.{Bytes, Visitor}

abbrev pub why_of : Stop → Why
why_of (Bytes e) = e.why
why_of (Visitor n) = VisitorRefused n
