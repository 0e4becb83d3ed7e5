pub mod MatcherCalls
