mod Lists
mod CountEquations
mod LineCounts
mod ViewCounts
mod HospitalForm
mod Numbers
