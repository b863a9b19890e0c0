-- The bounds of what is read of links.
use Rattle.std.specs.Prelude.{IsTrue}
use Rattle.exact_fraction.specs.Number.{zero, one}
use Rattle.exact_fraction.specs.Order.{◌≤ℚ◌}
use Rattle.rule_types.specs.WellFormed.{IsRate, has_rate}
use Rattle.network_lines.specs.declared.network.LinkData.{LinkData}

-- what is read of a link: a setting of at least 0, and of at most 1 where the link takes time to
-- move, and that time
pub record IsLinkData (link : LinkData) : Type 0 where
  pub setting : zero ≤ℚ link.setting
  pub rate : IsRate link.rate
  pub rated : IsTrue (has_rate link.rate) → link.setting ≤ℚ one
