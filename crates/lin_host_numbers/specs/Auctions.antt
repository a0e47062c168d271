-- What the check of an auction answers, as numbers. (02: N1, "The result is lawful and ended, lawful and open, or the index of the first unlawful call")
use Rattle.std.specs.Prelude.{ℕ, Err, Ok}
use Rattle.lin_spec.specs.Refusals.{Answer}
use Rattle.lin_spec.specs.Letters.{seat_number}
use Rattle.bridge_auction.specs.Auction.{strain_number, doubling_number}
use Rattle.bridge_auction.specs.declared.calls.Contract.{Contract}
use Rattle.bridge_auction.specs.declared.calls.Auction.{Auction}
use Rattle.bridge_auction.specs.declared.calls.Auction.TheVariants.{PassedOut, Ended, Open, Unlawful}
use Rattle.lin_host_numbers.specs.Answers.{numbers_of}
use Rattle.lin_host_numbers.specs.declared.answers.LinAnswer.{LinAnswer}
use Rattle.lin_host_numbers.specs.declared.auctions.LinAuction.{LinAuction}

abbrev pub without_contract : LinAnswer → (outcome : ℕ) → LinAuction
without_contract a n = record { answer = a; outcome = n; level = 0; strain = 0; doubling = 0; declarer = 0 }

-- "the contract, doubling included, and declarer": strains 0 to 4 for C D H S N, seats 0 to 3 for S W N E
abbrev pub contract_numbers : Contract → LinAuction
contract_numbers c =
    record {
      answer = numbers_of (Ok 0);
      outcome = 2;
      level = c.level;
      strain = strain_number c.strain;
      doubling = doubling_number c.doubling;
      declarer = seat_number c.declarer;
    }

-- the four results: 1 ended without a bid, 2 ended with a contract, 3 open, 4 unlawful, with the index as the value
abbrev pub result_numbers : Auction → LinAuction
result_numbers PassedOut = without_contract (numbers_of (Ok 0)) 1
result_numbers (Ended c) = contract_numbers c
result_numbers Open = without_contract (numbers_of (Ok 0)) 3
result_numbers (Unlawful i) = without_contract (numbers_of (Ok i)) 4

-- or the refusal
abbrev pub auction_numbers : Answer Auction → LinAuction
auction_numbers (Ok a) = result_numbers a
auction_numbers (Err r) = without_contract (numbers_of (Err r)) 0
