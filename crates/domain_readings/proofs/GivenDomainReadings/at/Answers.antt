-- Each list has a place there.
use Rattle.readings.proofs.InLists.{in_third}
use Rattle.domain_readings.proofs.GivenDomainReadings.at.Goals as goal

pub bounds-self-i-3 : goal.bounds-self-i-3
bounds-self-i-3 c = search in_third
