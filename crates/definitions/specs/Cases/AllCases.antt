-- The one table of all cases, those first that take the least to compute.
use Rattle.std.specs.Prelude.{List, ◌++◌}
use Rattle.definitions.specs.Cases.Claim.{Claim}
use Rattle.definitions.specs.Cases.Document.{document_cases}
use Rattle.definitions.specs.Cases.Several.{several_cases}
use Rattle.definitions.specs.Cases.Khoumsi.{khoumsi_cases}
use Rattle.definitions.specs.Cases.ReadBytes.{read_cases}
use Rattle.definitions.specs.Cases.Refusals.{refusal_cases}
use Rattle.definitions.specs.Cases.Limits.{limit_cases}
use Rattle.definitions.specs.Cases.EachByte.{each_byte_cases}
use Rattle.definitions.specs.Cases.Calls.{call_cases}
use Rattle.definitions.specs.Cases.Starts.{start_cases}
use Rattle.definitions.specs.Cases.Pages.{page_cases}
use Rattle.definitions.specs.Cases.Ways.{way_cases}
use Rattle.definitions.specs.Cases.NoRules.{no_rules_cases}
use Rattle.definitions.specs.Cases.Large.{large_cases}

abbrev pub cases : List Claim
cases = read_cases ++ call_cases ++ refusal_cases ++ khoumsi_cases ++ each_byte_cases ++ document_cases ++ limit_cases ++ several_cases ++ start_cases ++ page_cases ++ way_cases ++ no_rules_cases ++ large_cases
